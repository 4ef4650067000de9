use Rattle.std.proofs.Common.{arith}
use Rattle.off_runs.specs.Changes.{Wrote}
use Rattle.off_runs.proofs.EachLemmas.{one_more}
use Rattle.off_runs.proofs.pools.set_all.Goals as goal

pub loop-pool-preserved : goal.loop-pool-preserved
loop-pool-preserved c =
    one_more (Wrote c.args.address.0 c.args.expiry) c.args.pools.now.items c.loop-pool.pool-items c.loop-pool.pool-index c.pool-item.result c.set.new.self c.loop-pool.invariant (omega arith)
    c.set.ensures
