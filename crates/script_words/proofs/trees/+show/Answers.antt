use Rattle.std.proofs.Common.{ap, arith}
use Rattle.off_base.specs.Setting.{tree_of}
use Rattle.off_base.proofs.TreeLemmas.{size_at, parts_smaller}
use Rattle.script_words.proofs.trees.+show.Goals as goal

pub show_settings-show_setting-requires : goal.show_settings-show_setting-requires
show_settings-show_setting-requires t c =
    omega (arith, size_at c.args.settings.now c.loop-place.place (tree_of c.get.result.now) c.get.ensures)

pub show_setting-show_settings-requires : goal.show_setting-show_settings-requires
show_setting-show_settings-requires t c =
    omega (arith, parts_smaller c.in-Group.code c.in-Group.parts (tree_of c.args.setting.now) (ap tree_of c.in-Group.is))
