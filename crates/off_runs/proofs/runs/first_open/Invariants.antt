-- The addresses so far have live leases.
use Rattle.off_runs.specs.Runs.{listed}
use Rattle.off_runs.proofs.LeastLemmas.{AllLive}
use Rattle.off_runs.proofs.runs.first_open.Given as goal

abbrev pub invariant-loop-at : goal.invariant-loop-at
invariant-loop-at l = AllLive (listed l.pool.first.0 l.expiries) l.now.0 l.pool l.at
