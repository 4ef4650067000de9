use Rattle.std.proofs.Common.{◌∙◌, sym, ap, arith}
use Rattle.off_cells.specs.CellsSeen.{next_cell}
use Rattle.off_cells.specs.SortedCells.{SortedHeld}
use Rattle.off_cells.proofs.SortedLemmas.{next_held, item_at, none_at}
use Rattle.off_cells.proofs.sorted.Sorted.next.Goals as goal

pub returns-then-at-len : goal.returns-then-at-len
returns-then-at-len c =
    sym (item_at c.self.inside.cells.items c.first_behind-at.result c.index.result.now (omega (arith, c.if-at-len.true, c.len.ensures)) c.index.ensures) ∙ c.first_behind-at.ensures
    ∙ next_held c.args.place c.self.inside.cells.items c.self.invariant ∙ ap (λ (s : SortedHeld). next_cell c.args.place s.cells) c.self.view_is

pub returns : goal.returns
returns c =
    sym (none_at c.self.inside.cells.items c.first_behind-at.result (omega (arith, c.if-at-len.false, c.len.ensures))) ∙ c.first_behind-at.ensures
    ∙ next_held c.args.place c.self.inside.cells.items c.self.invariant ∙ ap (λ (s : SortedHeld). next_cell c.args.place s.cells) c.self.view_is
