use Rattle.std.proofs.Common.{ℕ, ◌+◌, ap, ◌∙◌, arith}
use Rattle.off_base.specs.Setting.{tree_of}
use Rattle.off_tree.specs.Length.{at_most_u32}
use Rattle.off_base.proofs.TreeLemmas.{size_at}
use Rattle.off_tree.proofs.LengthLemmas.{length_more, parts_smaller, parts_length}
use Rattle.off_tree.proofs.lengths.+lengths.Goals as goal

pub spelled_length-value_length-requires : goal.spelled_length-value_length-requires
spelled_length-value_length-requires t c = (omega (arith, size_at c.args.settings.now c.loop-place.place (tree_of c.get.result.now) c.get.ensures), tt)

pub spelled_length-loop-place-preserved : goal.spelled_length-loop-place-preserved
spelled_length-loop-place-preserved t c =
    c.saturating_add-sum.ensures ∙ ap (λ (n : ℕ). at_most_u32 (n + c.value_length.result)) c.saturating_add.ensures
    ∙ length_more c.args.settings.now c.loop-place.place (tree_of c.get.result.now) c.loop-place.sum c.value_length.result c.get.ensures c.loop-place.invariant c.value_length.ensures

pub value_length-spelled_length-requires : goal.value_length-spelled_length-requires
value_length-spelled_length-requires t c = (omega (arith, parts_smaller c.in-Group.code c.in-Group.parts (tree_of c.args.setting.now) (ap tree_of c.in-Group.is)), tt)

pub value_length-returns-in-Group : goal.value_length-returns-in-Group
value_length-returns-in-Group t c = c.spelled_length.ensures ∙ ap at_most_u32 (parts_length c.in-Group.code c.in-Group.parts (tree_of c.args.setting.now) (ap tree_of c.in-Group.is))
