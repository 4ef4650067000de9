-- Those so far have kept it.
use Rattle.off_runs.specs.Changes.{Wrote}
use Rattle.off_runs.proofs.EachLemmas.{SoFar}
use Rattle.off_runs.proofs.pools.set_all.Given as goal

abbrev pub invariant-loop-pool : goal.invariant-loop-pool
invariant-loop-pool l = SoFar (Wrote l.address.0 l.expiry) l.fn.pools.items l.pool-items l.pool-index
