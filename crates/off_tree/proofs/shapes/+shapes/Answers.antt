use Rattle.std.proofs.Common.{ap, arith}
use Rattle.off_base.specs.Setting.{tree_of}
use Rattle.off_tree.proofs.ShapeLemmas.{parts_smaller, found_at, none_at}
use Rattle.off_tree.proofs.shapes.+shapes.Goals as goal

pub parts_fault-returns-in-Some : goal.parts_fault-returns-in-Some
parts_fault-returns-in-Some t c =
    found_at c.args.level c.args.path c.args.settings.now c.loop-place.place c.in-Some.fault (omega (arith, c.len-place-end.ensures)) c.loop-place.invariant c.in-Some.ensures

pub parts_fault-loop-place-preserved : goal.parts_fault-loop-place-preserved
parts_fault-loop-place-preserved t c =
    none_at c.args.level c.args.path c.args.settings.now c.loop-place.place (omega (arith, c.len-place-end.ensures)) c.loop-place.invariant c.in_default.ensures

pub setting_fault-parts_fault-requires : goal.setting_fault-parts_fault-requires
setting_fault-parts_fault-requires t c =
    (omega (arith, parts_smaller c.args.settings.now c.args.place (tree_of c.get-setting.result.now) c.in-Group.code c.in-Group.parts c.get-setting.ensures (ap tree_of c.in-Group.is)), tt)
