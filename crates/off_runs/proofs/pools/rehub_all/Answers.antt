use Rattle.std.proofs.Common.{arith}
use Rattle.off_runs.specs.Changes.{Rehubbed}
use Rattle.off_runs.proofs.EachLemmas.{one_more}
use Rattle.off_runs.proofs.pools.rehub_all.Goals as goal

pub loop-pool-preserved : goal.loop-pool-preserved
loop-pool-preserved c =
    one_more (Rehubbed c.args.number c.args.hub) c.args.pools.now.items c.loop-pool.pool-items c.loop-pool.pool-index c.pool-item.result c.rehub.new.self c.loop-pool.invariant (omega arith)
    c.rehub.ensures
