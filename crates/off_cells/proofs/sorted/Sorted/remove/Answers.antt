use Rattle.std.proofs.Common.{◌∙◌, ap, arith}
use Rattle.off_cells.specs.SortedCells.{SortedHeld}
use Rattle.off_cells.proofs.SortedLemmas.{got_none, remove_is, sorted_others, kept_removed, kept_all}
use Rattle.off_cells.proofs.sorted.Sorted.remove.Goals as goal

pub invariant_of-self : goal.invariant_of-self
invariant_of-self c =
    sorted_others c.args.key c.self.inside.cells.items _ c.self.invariant
    (c.remove-removed.ensures.items ∙ remove_is c.args.key c.self.inside.cells.items c.place_of-place.result c.is_at.result c.self.invariant c.place_of-place.ensures.place c.is_at.ensures c.if-is_at.true)

pub returns-then-is_at-clause-cells : goal.returns-then-is_at-clause-cells
returns-then-is_at-clause-cells c =
    kept_removed c.args.key c.args.self.now.cells c.self.inside.cells.items c.remove-removed.new.self.items c.self.invariant (ap (λ (s : SortedHeld). s.cells) c.self.view_is)
    (c.remove-removed.ensures.items ∙ remove_is c.args.key c.self.inside.cells.items c.place_of-place.result c.is_at.result c.self.invariant c.place_of-place.ensures.place c.is_at.ensures c.if-is_at.true)

pub returns-then-is_at-clause-room : goal.returns-then-is_at-clause-room
returns-then-is_at-clause-room c =
    omega (arith, ap (λ (s : SortedHeld). s.room) c.self.view_is, c.remove-removed.ensures.len, c.remove-removed.ensures.capacity)

pub returns-else-is_at-clause-cells : goal.returns-else-is_at-clause-cells
returns-else-is_at-clause-cells c =
    kept_all c.args.key c.args.self.now.cells
    (got_none c.args.key c.args.self.now.cells c.self.inside.cells.items c.place_of-place.result c.is_at.result c.self.invariant (ap (λ (s : SortedHeld). s.cells) c.self.view_is)
    c.place_of-place.ensures.place c.is_at.ensures c.if-is_at.false)
