use Rattle.std.proofs.Common.{◌≡◌, drop}
use Rattle.off_tree.specs.Fault.{value_in}
use Rattle.off_tree.proofs.references.value_in.Given as goal

abbrev pub invariant-loop-place : goal.invariant-loop-place
invariant-loop-place l = value_in l.part (drop l.place l.parts) ≡ value_in l.part l.parts
