use Rattle.std.proofs.Common.{◌≡◌, ◌+◌, ◌*◌, [], take, drop, map}
use Rattle.off_base.specs.Tree.{code_of, row_of, trees_size}
use Rattle.off_tree.specs.Fault.{parts_fault}
use Rattle.off_tree.proofs.shapes.+shapes.Given as goal

abbrev pub decreases-parts_fault : goal.decreases-parts_fault
decreases-parts_fault l = 2 * trees_size l.settings.now + 1

abbrev pub decreases-setting_fault : goal.decreases-setting_fault
decreases-setting_fault l = 2 * trees_size l.settings.now

abbrev pub invariant-parts_fault-loop-place : goal.invariant-parts_fault-loop-place
invariant-parts_fault-loop-place l =
    parts_fault l.level l.path (map code_of (take l.place l.settings)) (row_of (drop l.place l.settings)) ≡ parts_fault l.level l.path [] (row_of l.settings)
