use Rattle.std.proofs.Common.{◌∙◌}
use Rattle.off_runs.proofs.LeaseLemmas.{taken_more}
use Rattle.off_runs.proofs.leases.take_leases.Goals as goal

pub loop-place-preserved : goal.loop-place-preserved
loop-place-preserved c =
    record {
      taken = taken_more c.args.writes.now c.loop-place.place c.get.result.now c.args.pools.now.items c.loop-place.pools.items c.take_lease.new.pools.items c.get.ensures c.loop-place.invariant.taken c.take_lease.ensures.taken;
      len = c.take_lease.ensures.len ∙ c.loop-place.invariant.len;
      capacity = c.take_lease.ensures.capacity ∙ c.loop-place.invariant.capacity;
    }
