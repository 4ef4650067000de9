use Rattle.std.proofs.Common.{sym}
use Rattle.off_runs.proofs.LeaseLemmas.{one_hub_taken}
use Rattle.off_runs.proofs.leases.take_hub.Goals as goal

pub returns-clause-taken : goal.returns-clause-taken
returns-clause-taken c =
    one_hub_taken c.args.write.now c.in-Some.number c.in-Some.hub c.args.pools.now.items c.rehub_all.new.pools.items (sym c.in-Some.ensures) c.rehub_all.ensures.each
