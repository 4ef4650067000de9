use Rattle.std.proofs.Common.{◌≡◌, ◌+◌, ◌*◌, ◌++◌, take}
use Rattle.off_base.specs.Tree.{spelling, tree_size, trees_size}
use Rattle.off_base.specs.Setting.{tree_of}
use Rattle.off_tlv.proofs.writing.+write.Given as goal

abbrev pub decreases-push_settings : goal.decreases-push_settings
decreases-push_settings l = 2 * trees_size l.settings.now + 1

abbrev pub decreases-push_setting : goal.decreases-push_setting
decreases-push_setting l = 2 * tree_size (tree_of l.setting.now)

abbrev pub invariant-push_settings-loop-place : goal.invariant-push_settings-loop-place
invariant-push_settings-loop-place l = l.out ≡ l.fn.out ++ spelling (take l.place l.settings)
