use Rattle.std.proofs.Common.{sym, ap}
use Rattle.off_cells.specs.SortedCells.{SortedHeld}
use Rattle.off_cells.proofs.SortedLemmas.{got, got_none}
use Rattle.off_cells.proofs.sorted.Sorted.find.Goals as goal

pub returns-then-is_at : goal.returns-then-is_at
returns-then-is_at c =
    sym (got c.args.key c.args.self.now.cells c.self.inside.cells.items c.place_of-place.result c.index.result.now c.is_at.result c.self.invariant (ap (λ (s : SortedHeld). s.cells) c.self.view_is)
    c.place_of-place.ensures.place c.is_at.ensures c.if-is_at.true c.index.ensures)

pub returns : goal.returns
returns c =
    sym (got_none c.args.key c.args.self.now.cells c.self.inside.cells.items c.place_of-place.result c.is_at.result c.self.invariant (ap (λ (s : SortedHeld). s.cells) c.self.view_is)
    c.place_of-place.ensures.place c.is_at.ensures c.if-is_at.false)
