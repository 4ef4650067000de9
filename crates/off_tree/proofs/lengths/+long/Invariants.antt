use Rattle.std.specs.Prelude.{option_map}
use Rattle.std.proofs.Common.{◌≡◌, drop, ◌+◌, ◌*◌}
use Rattle.off_base.specs.Tree.{row_of, trees_size, tree_size}
use Rattle.off_base.specs.Setting.{tree_of}
use Rattle.off_tree.specs.Fault.{long_part}
use Rattle.off_tree.specs.Length.{at_most_u32}
use Rattle.off_tree.proofs.lengths.+long.Given as goal

abbrev pub decreases-long_part : goal.decreases-long_part
decreases-long_part l = 2 * trees_size l.settings.now + 1

abbrev pub decreases-long_setting : goal.decreases-long_setting
decreases-long_setting l = 2 * tree_size (tree_of l.setting.now)

abbrev pub invariant-long_part-loop-place : goal.invariant-long_part-loop-place
invariant-long_part-loop-place l = option_map at_most_u32 (long_part (row_of (drop l.place l.settings))) ≡ option_map at_most_u32 (long_part (row_of l.settings))
