-- What the last marks say is noted.
use Rattle.off_opening.proofs.UsingLemmas.{Noted}
use Rattle.off_opening.proofs.using.users_in.Given as goal

abbrev pub invariant-loop-passed : goal.invariant-loop-passed
invariant-loop-passed l = Noted l.marks l.passed l.users
