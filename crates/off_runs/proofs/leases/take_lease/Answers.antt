use Rattle.off_runs.proofs.LeaseLemmas.{one_taken}
use Rattle.off_runs.proofs.leases.take_lease.Goals as goal

pub returns-clause-taken : goal.returns-clause-taken
returns-clause-taken c =
    one_taken c.args.write.now c.in-Some.address.0 c.in-Some.expiry c.args.pools.now.items c.set_all.new.pools.items c.in-Some.ensures c.set_all.ensures.each
