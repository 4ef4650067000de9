-- What the real outside shows: its counts. What it holds isn't told, so it is always up.
use Rattle.std.specs.Prelude.{ℕ}
use Rattle.off_outside.specs.LinkSeen.{LinkSeen}
use Rattle.off_outside.specs.Streams.{SourceSeen, SinkSeen}

abbrev pub link_counts : ℕ → ℕ → ℕ → ℕ → LinkSeen
link_counts missed longest faults unsent =
    record {
      left = λ _. ⊥;
      sent = λ _. ⊥;
      moments = λ _. ⊥;
      up = Unit {0};
      missed = missed;
      longest = longest;
      faults = faults;
      unsent = unsent;
    }

abbrev pub source_counts : ℕ → ℕ → ℕ → SourceSeen
source_counts faults calls ends =
    record { left = λ _. ⊥; up = Unit {0}; faults = faults; calls = calls; ends = ends }

abbrev pub sink_counts : ℕ → ℕ → SinkSeen
sink_counts faults calls =
    record { written = λ _. ⊥; up = Unit {0}; faults = faults; calls = calls }
