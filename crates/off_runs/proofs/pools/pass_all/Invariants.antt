-- Those so far are as before.
use Rattle.off_runs.specs.Changes.{IsSame}
use Rattle.off_runs.proofs.EachLemmas.{SoFar}
use Rattle.off_runs.proofs.pools.pass_all.Given as goal

abbrev pub invariant-loop-pool : goal.invariant-loop-pool
invariant-loop-pool l = SoFar IsSame l.fn.pools.items l.pool-items l.pool-index
