-- Counters of a drill, which stop at the greatest number of 64 bits.
use Rattle.std.specs.Prelude.{ℕ, ◌+◌, min, max, List, length}
use Rattle.off_base.specs.Number.{greatest_u64}
use Rattle.off_defs.specs.declared.results.Sent.{Sent}
use Rattle.off_drill_rules.specs.declared.tally.Tally.{Tally}
use Rattle.off_drill_rules.specs.Numbers.{data_in, octets_in}

-- a counter after so many more; one that is past the greatest number already stays
abbrev pub lifted : ℕ → ℕ → ℕ
lifted count more = max count (min (count + more) greatest_u64)

abbrev pub raised_by : Tally → Tally → Tally
raised_by tally more = record {
  offers = lifted tally.offers more.offers;
  acks = lifted tally.acks more.acks;
  files = lifted tally.files more.files;
  blocks = lifted tally.blocks more.blocks;
  octets = lifted tally.octets more.octets;
}

-- what DATA packets count for
abbrev pub data_tally : List Sent → Tally
data_tally items = record {
  offers = 0;
  acks = 0;
  files = 0;
  blocks = length (data_in items);
  octets = octets_in items;
}
