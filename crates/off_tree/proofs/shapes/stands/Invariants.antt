use Rattle.std.proofs.Common.{◌≡◌, false, take, map}
use Rattle.off_base.specs.Tree.{code_of}
use Rattle.off_tree.specs.Fault.{contains}
use Rattle.off_tree.proofs.shapes.stands.Given as goal

abbrev pub invariant-loop-place : goal.invariant-loop-place
invariant-loop-place l = contains l.code (map code_of (take l.place l.settings)) ≡ false
