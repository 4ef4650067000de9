use Rattle.std.proofs.Common.{◌∙◌, ap, arith}
use Rattle.off_cells.specs.SortedCells.{SortedHeld}
use Rattle.off_cells.proofs.SortedLemmas.{set_is_put, insert_is_put, sorted_put, kept_put}
use Rattle.off_cells.proofs.sorted.Sorted.put.Goals as goal

pub invariant_of-self : goal.invariant_of-self
invariant_of-self c =
    sorted_put c.args.key c.args.val c.self.inside.cells.items _ c.self.invariant
    (set_is_put c.args.key c.self.inside.cells.items c.place_of-place.result c.index_mut.result.now c.args.val c.is_at.result c.place_of-place.ensures.place c.is_at.ensures c.if-is_at.true c.index_mut.ensures.value)

pub returns-then-is_at-clause-cells : goal.returns-then-is_at-clause-cells
returns-then-is_at-clause-cells c =
    kept_put c.args.key c.args.val c.args.self.now.cells c.self.inside.cells.items _ c.self.invariant (ap (λ (s : SortedHeld). s.cells) c.self.view_is)
    (set_is_put c.args.key c.self.inside.cells.items c.place_of-place.result c.index_mut.result.now c.args.val c.is_at.result c.place_of-place.ensures.place c.is_at.ensures c.if-is_at.true c.index_mut.ensures.value)

pub insert_at-requires-clause-room : goal.insert_at-requires-clause-room
insert_at-requires-clause-room c = omega (arith, c.requires, ap (λ (s : SortedHeld). s.room) c.self.view_is)

pub invariant_of-self-else-is_at : goal.invariant_of-self-else-is_at
invariant_of-self-else-is_at c =
    sorted_put c.args.key c.args.val c.self.inside.cells.items _ c.self.invariant
    (c.insert_at.ensures.items ∙ insert_is_put c.args.key c.self.inside.cells.items c.place_of-place.result c.args.val c.is_at.result c.place_of-place.ensures.place c.is_at.ensures c.if-is_at.false)

pub returns-else-is_at-clause-cells : goal.returns-else-is_at-clause-cells
returns-else-is_at-clause-cells c =
    kept_put c.args.key c.args.val c.args.self.now.cells c.self.inside.cells.items c.insert_at.new.cells.items c.self.invariant (ap (λ (s : SortedHeld). s.cells) c.self.view_is)
    (c.insert_at.ensures.items ∙ insert_is_put c.args.key c.self.inside.cells.items c.place_of-place.result c.args.val c.is_at.result c.place_of-place.ensures.place c.is_at.ensures c.if-is_at.false)

pub returns-else-is_at-clause-room : goal.returns-else-is_at-clause-room
returns-else-is_at-clause-room c =
    omega (arith, c.requires, ap (λ (s : SortedHeld). s.room) c.self.view_is, c.insert_at.ensures.len, c.insert_at.ensures.capacity)
