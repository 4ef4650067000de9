use Rattle.std.proofs.Common.{ap, sym, ◌∙◌, arith}
use Rattle.off_base.specs.Setting.{tree_of}
use Rattle.off_base.proofs.TreeLemmas.{size_at, parts_smaller}
use Rattle.off_tlv.specs.Seen.{level_of}
use Rattle.off_tlv.proofs.ShapeLemmas.{shape_fails, shape_holds}
use Rattle.off_tlv.proofs.shapes.+shaped.Goals as goal

pub are_shaped-has_shape-requires : goal.are_shaped-has_shape-requires
are_shaped-has_shape-requires t c =
    (omega (arith, size_at c.args.settings.now c.loop-place.place (tree_of c.get.result.now) c.get.ensures), tt)

pub are_shaped-returns-then-not-has_shape : goal.are_shaped-returns-then-not-has_shape
are_shaped-returns-then-not-has_shape t c =
    shape_fails (level_of c.args.level) c.args.settings.now c.loop-place.place (tree_of c.get.result.now) _ c.get.ensures c.loop-place.invariant (sym c.if-not-has_shape.true ∙ c.has_shape.ensures)

pub are_shaped-loop-place-preserved : goal.are_shaped-loop-place-preserved
are_shaped-loop-place-preserved t c =
    shape_holds (level_of c.args.level) c.args.settings.now c.loop-place.place (tree_of c.get.result.now) _ c.get.ensures c.loop-place.invariant (sym c.if-not-has_shape.false ∙ c.has_shape.ensures)

pub has_shape-are_shaped-requires : goal.has_shape-are_shaped-requires
has_shape-are_shaped-requires t c =
    (omega (arith, parts_smaller c.in-Group.code c.in-Group.parts (tree_of c.args.setting.now) (ap tree_of c.in-Group.is)), tt)
