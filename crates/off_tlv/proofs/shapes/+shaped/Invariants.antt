use Rattle.std.proofs.Common.{◌≡◌, ◌+◌, ◌*◌, drop}
use Rattle.off_base.specs.Tree.{row_of, tree_size, trees_size}
use Rattle.off_base.specs.Setting.{tree_of}
use Rattle.off_tlv.specs.Front.{row_is_shaped}
use Rattle.off_tlv.specs.Seen.{level_of}
use Rattle.off_tlv.proofs.shapes.+shaped.Given as goal

abbrev pub decreases-are_shaped : goal.decreases-are_shaped
decreases-are_shaped l = 2 * trees_size l.settings.now + 1

abbrev pub decreases-has_shape : goal.decreases-has_shape
decreases-has_shape l = 2 * tree_size (tree_of l.setting.now)

abbrev pub invariant-are_shaped-loop-place : goal.invariant-are_shaped-loop-place
invariant-are_shaped-loop-place l = row_is_shaped (level_of l.level) (row_of (drop l.place l.settings)) ≡ row_is_shaped (level_of l.level) (row_of l.settings)
