use Rattle.std.proofs.Common.{◌+◌, ◌-◌, ◌/◌, ◌<◌, ℕ, length, ◌∙◌, sym, arith}
use Rattle.off_keepmem.proofs.ShelfLemmas.{below_first, above_none, below_shelf, above_shelf, stocked_at}
use Rattle.off_keepmem.proofs.table.shelf_of.Goals as goal

pub search-init : goal.search-init
search-init c = record {
  order = omega (arith, c.requires.some, c.len-high.ensures);
  within = omega (arith, c.len-high.ensures, c.args.shelves.now.ok.0);
  front = below_first _ c.args.shelves.now.items;
  behind = above_none _ c.args.shelves.now.items _ (omega (arith, c.len-high.ensures, c.args.shelves.now.ok.0));
}

pub search-preserved-then-starts_by : goal.search-preserved-then-starts_by
search-preserved-then-starts_by c =
    let middle : ℕ = c.search.low + (c.search.high - c.search.low) / 2 in
    let below : middle < c.search.high = omega (arith, c.search-test.true, c.search.invariant.order) in
    let within : middle < length c.args.shelves.now.items = omega (arith, below, c.search.invariant.within) in
    record {
      order = omega (arith, below);
      within = c.search.invariant.within;
      front = below_shelf c.args.key.now c.args.shelves.now.items middle c.index.result.now c.requires.rises within c.index.ensures
          (stocked_at c.args.shelves.now.items middle c.index.result.now c.requires.stocked within c.index.ensures).0 (sym c.starts_by.ensures ∙ c.if-starts_by.true);
      behind = c.search.invariant.behind;
    }

pub search-preserved : goal.search-preserved
search-preserved c =
    let middle : ℕ = c.search.low + (c.search.high - c.search.low) / 2 in
    let below : middle < c.search.high = omega (arith, c.search-test.true, c.search.invariant.order) in
    let within : middle < length c.args.shelves.now.items = omega (arith, below, c.search.invariant.within) in
    record {
      order = omega (arith, c.search-test.true);
      within = omega (arith, within);
      front = c.search.invariant.front;
      behind = above_shelf c.args.key.now c.args.shelves.now.items middle c.index.result.now c.requires.rises within c.index.ensures
          (stocked_at c.args.shelves.now.items middle c.index.result.now c.requires.stocked within c.index.ensures).0 (sym c.starts_by.ensures ∙ c.if-starts_by.false);
    }
