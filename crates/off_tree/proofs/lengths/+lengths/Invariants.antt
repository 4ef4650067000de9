use Rattle.std.proofs.Common.{◌≡◌, take, ◌+◌, ◌*◌}
use Rattle.off_base.specs.Tree.{trees_size, tree_size, trees_length}
use Rattle.off_base.specs.Setting.{tree_of}
use Rattle.off_tree.specs.Length.{at_most_u32}
use Rattle.off_tree.proofs.lengths.+lengths.Given as goal

abbrev pub decreases-spelled_length : goal.decreases-spelled_length
decreases-spelled_length l = 2 * trees_size l.settings.now + 1

abbrev pub decreases-value_length : goal.decreases-value_length
decreases-value_length l = 2 * tree_size (tree_of l.setting.now)

abbrev pub invariant-spelled_length-loop-place : goal.invariant-spelled_length-loop-place
invariant-spelled_length-loop-place l = l.sum ≡ at_most_u32 (trees_length (take l.place l.settings))
