use Rattle.std.proofs.Common.{◌≡◌, ◌+◌, ◌*◌, ◌++◌, take, map}
use Rattle.std.specs.List.{join_with_byte}
use Rattle.off_base.specs.Tree.{tree_size, trees_size}
use Rattle.off_base.specs.Setting.{tree_of}
use Rattle.off_clerk_rules.specs.Replies.{tree_text}
use Rattle.off_clerk.proofs.arrays.+settings.Given as goal

abbrev pub decreases-push_settings : goal.decreases-push_settings
decreases-push_settings l = 2 * trees_size l.settings.now + 1

abbrev pub decreases-push_setting : goal.decreases-push_setting
decreases-push_setting l = 2 * tree_size (tree_of l.setting.now)

abbrev pub invariant-push_settings-loop-place : goal.invariant-push_settings-loop-place
invariant-push_settings-loop-place l = l.text ≡ l.initial.text ++ join_with_byte 44 (map tree_text (take l.place l.settings))
