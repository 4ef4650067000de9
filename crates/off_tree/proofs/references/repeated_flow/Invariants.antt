use Rattle.std.proofs.Common.{◌≡◌, [], take, drop}
use Rattle.off_tree.specs.Fault.{numbers, flow_number, both_directions, first_repeat}
use Rattle.off_tree.specs.Reference.{Marks}
use Rattle.off_tree.proofs.references.repeated_flow.Given as goal

abbrev pub invariant-loop-place : goal.invariant-loop-place
invariant-loop-place l =
    (first_repeat (numbers (flow_number both_directions) (take l.place l.settings)) (numbers (flow_number both_directions) (drop l.place l.settings)) ≡ first_repeat [] (numbers (flow_number both_directions) l.settings))
    × Marks l.met (numbers (flow_number both_directions) (take l.place l.settings))
