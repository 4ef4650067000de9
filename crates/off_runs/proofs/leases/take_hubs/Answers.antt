use Rattle.std.proofs.Common.{◌∙◌}
use Rattle.off_runs.proofs.LeaseLemmas.{hubs_taken_more}
use Rattle.off_runs.proofs.leases.take_hubs.Goals as goal

pub loop-place-preserved : goal.loop-place-preserved
loop-place-preserved c =
    record {
      taken = hubs_taken_more c.args.writes.now c.loop-place.place c.get.result.now c.args.pools.now.items c.loop-place.pools.items c.take_hub.new.pools.items c.get.ensures c.loop-place.invariant.taken c.take_hub.ensures.taken;
      len = c.take_hub.ensures.len ∙ c.loop-place.invariant.len;
      capacity = c.take_hub.ensures.capacity ∙ c.loop-place.invariant.capacity;
    }
