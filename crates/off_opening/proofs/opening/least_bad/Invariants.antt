use Rattle.off_opening.proofs.StandingLemmas.{Kept}
use Rattle.off_opening.proofs.opening.least_bad.Given as goal

abbrev pub invariant-loop-mark : goal.invariant-loop-mark
invariant-loop-mark l = Kept l.marks l.compared l.mark-index
