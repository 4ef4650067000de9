use Rattle.std.proofs.Common.{ap, arith}
use Rattle.std.proofs.lemmas.Grind.{common_steps}
use Rattle.off_base.specs.Setting.{tree_of}
use Rattle.off_base.proofs.TreeLemmas.{size_at, parts_smaller}
use Rattle.off_clerk.proofs.ArrayLemmas.{element_more, group_text}
use Rattle.off_clerk.proofs.arrays.+settings.Goals as goal

pub push_setting-push_settings-requires : goal.push_setting-push_settings-requires
push_setting-push_settings-requires t c =
    (omega (arith, parts_smaller c.in-Group.code c.in-Group.parts (tree_of c.args.setting.now) (ap tree_of c.in-Group.is)), tt)

pub push_setting-returns-in_ok-push_settings-in-Group : goal.push_setting-returns-in_ok-push_settings-in-Group
push_setting-returns-in_ok-push_settings-in-Group t c =
    let text = group_text c.in-Group.code c.in-Group.parts (tree_of c.args.setting.now) (ap tree_of c.in-Group.is) in
    rw text (grind (arith, common_steps))

pub push_settings-push_setting-requires : goal.push_settings-push_setting-requires
push_settings-push_setting-requires t c =
    (omega (arith, size_at c.args.settings.now c.loop-place.place (tree_of c.get.result.now) c.get.ensures), tt)

pub push_settings-loop-place-preserved : goal.push_settings-loop-place-preserved
push_settings-loop-place-preserved t c =
    element_more c.args.settings.now c.loop-place.place (tree_of c.get.result.now) c.push_all.new.self c.loop-place.text c.push_comma.new.text c.push_setting.new.text c.get.ensures c.loop-place.invariant
    c.in_ok-push_comma.ensures c.in_ok-push_setting.ensures
