use Rattle.std.proofs.Common.{◌≡◌, false, take}
use Rattle.off_tree.specs.Fault.{contains, numbers, flow_number}
use Rattle.off_tree.specs.Reference.{directions_of}
use Rattle.off_tree.proofs.references.has_flow.Given as goal

abbrev pub invariant-loop-place : goal.invariant-loop-place
invariant-loop-place l = contains l.number (numbers (flow_number (directions_of l.flows)) (take l.place l.settings)) ≡ false
