use Rattle.std.proofs.Common.{◌≡◌, drop}
use Rattle.off_tree.specs.Fault.{first_lost}
use Rattle.off_tree.proofs.references.lost_flow.Given as goal

abbrev pub invariant-loop-place : goal.invariant-loop-place
invariant-loop-place l = first_lost l.settings (drop l.place l.settings) ≡ first_lost l.settings l.settings
