-- Those so far have it.
use Rattle.off_runs.specs.Changes.{Rehubbed}
use Rattle.off_runs.proofs.EachLemmas.{SoFar}
use Rattle.off_runs.proofs.pools.rehub_all.Given as goal

abbrev pub invariant-loop-pool : goal.invariant-loop-pool
invariant-loop-pool l = SoFar (Rehubbed l.number l.hub) l.fn.pools.items l.pool-items l.pool-index
