use Rattle.std.proofs.Common.{◌+◌, ◌-◌, ◌/◌, ◌<◌, ℕ, ◌∙◌, sym, ap, arith}
use Rattle.std.specs.Ordering.{is_gt}
use Rattle.off_defs.specs.declared.keys.Key.{Key}
use Rattle.off_keepmem.specs.Entries.{compared}
use Rattle.off_keepmem.proofs.EntryLemmas.{below_begun, none_begun, below_more, none_here}
use Rattle.off_keepmem.proofs.shelf.place_of.Goals as goal

pub search-init : goal.search-init
search-init c = record {
  order = omega arith;
  within = omega (arith, c.len-high.ensures, c.args.entries.now.ok.0);
  front = below_begun _ c.args.entries.now.items;
  behind = none_begun _ c.args.entries.now.items _ (omega (arith, c.len-high.ensures, c.args.entries.now.ok.0));
}

pub search-preserved-then-is_above : goal.search-preserved-then-is_above
search-preserved-then-is_above c =
    let middle : ℕ = c.search.low + (c.search.high - c.search.low) / 2 in
    let below : middle < c.search.high = omega (arith, c.search-test.true, c.search.invariant.order) in
    record {
      order = omega (arith, below);
      within = c.search.invariant.within;
      front = below_more c.args.key.now c.args.entries.now.items middle c.index.result.now c.requires (omega (arith, below, c.search.invariant.within)) c.index.ensures (ap (λ (k : Key). is_gt (compared c.args.key.now k)) (sym c.key.ensures) ∙ sym c.is_above.ensures ∙ c.if-is_above.true);
      behind = c.search.invariant.behind;
    }

pub search-preserved : goal.search-preserved
search-preserved c =
    let middle : ℕ = c.search.low + (c.search.high - c.search.low) / 2 in
    let below : middle < c.search.high = omega (arith, c.search-test.true, c.search.invariant.order) in
    record {
      order = omega arith;
      within = omega (arith, below, c.search.invariant.within);
      front = c.search.invariant.front;
      behind = none_here c.args.key.now c.args.entries.now.items middle c.index.result.now (omega (arith, below, c.search.invariant.within)) c.index.ensures (ap (λ (k : Key). is_gt (compared c.args.key.now k)) (sym c.key.ensures) ∙ sym c.is_above.ensures ∙ c.if-is_above.false);
    }
