use Rattle.std.proofs.Common.{take}
use Rattle.off_tree.specs.Fault.{numbers, flow_number}
use Rattle.off_tree.specs.Reference.{directions_of, Marks}
use Rattle.off_tree.proofs.references.flows_met.Given as goal

abbrev pub invariant-loop-place : goal.invariant-loop-place
invariant-loop-place l = Marks l.met (numbers (flow_number (directions_of l.flows)) (take l.place l.settings))
