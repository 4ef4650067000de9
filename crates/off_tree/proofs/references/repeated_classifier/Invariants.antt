use Rattle.std.proofs.Common.{◌≡◌, [], take, drop}
use Rattle.off_tree.specs.Fault.{numbers, classifier_number, first_repeat}
use Rattle.off_tree.specs.Reference.{Marks}
use Rattle.off_tree.proofs.references.repeated_classifier.Given as goal

abbrev pub invariant-loop-place : goal.invariant-loop-place
invariant-loop-place l =
    (first_repeat (numbers classifier_number (take l.place l.settings)) (numbers classifier_number (drop l.place l.settings)) ≡ first_repeat [] (numbers classifier_number l.settings))
    × Marks l.met (numbers classifier_number (take l.place l.settings))
