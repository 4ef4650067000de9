use Rattle.std.proofs.Common.{arith}
use Rattle.off_runs.proofs.GatherLemmas.{copied_more}
use Rattle.off_runs.proofs.pools.gather.Goals as goal

pub loop-place-preserved : goal.loop-place-preserved
loop-place-preserved c =
    copied_more c.args.pools.now.items c.loop-place.place c.index.result.now c.args.fresh.now c.loop-place.fresh c.copy.new.self (omega arith) c.index.ensures c.loop-place.invariant c.copy.ensures
