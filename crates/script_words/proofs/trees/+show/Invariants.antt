use Rattle.std.proofs.Common.{◌+◌, ◌*◌}
use Rattle.off_base.specs.Tree.{tree_size, trees_size}
use Rattle.off_base.specs.Setting.{tree_of}
use Rattle.script_words.proofs.trees.+show.Given as goal

abbrev pub decreases-show_setting : goal.decreases-show_setting
decreases-show_setting l = 2 * tree_size (tree_of l.setting.now)

abbrev pub decreases-show_settings : goal.decreases-show_settings
decreases-show_settings l = 2 * trees_size l.settings.now + 1
