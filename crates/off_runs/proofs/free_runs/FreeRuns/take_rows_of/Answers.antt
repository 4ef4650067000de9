use Rattle.std.proofs.Common.{List, sym, subst}
use Rattle.off_outside.proofs.KeeperLemmas.{reads_then}
use Rattle.off_runs.specs.Held.{PoolHeld, RunsHeld, KeepsPools}
use Rattle.off_runs.specs.Leases.{LeasesTaken, ground}
use Rattle.off_runs.specs.Reading.{leases_put}
use Rattle.off_runs.proofs.ReadLemmas.{leased_keeps, hubbed_keeps}
use Rattle.off_runs.proofs.WalkLemmas.{walks_once, walks_twice}
use Rattle.off_runs.proofs.EachLemmas.{none_changed}
use Rattle.off_runs.proofs.free_runs.FreeRuns.take_rows_of.Goals as goal

pub returns-clause-told : goal.returns-clause-told
returns-clause-told g c =
    reads_then c.in_ok-take_kept_leases.ensures.told c.in_ok-take_kept_hubs.ensures.told (λ t leased hubbed s.
    subst (λ (ps : List PoolHeld). KeepsPools ps (ground t)) (sym (none_changed c.take_kept_hubs.new.pools.items c.pass_all.new.pools.items c.pass_all.ensures.each))
    (hubbed_keeps t c.take_kept_leases.new.pools.items c.take_kept_hubs.new.pools.items
    (leased_keeps t c.args.self.now.pools c.take_kept_leases.new.pools.items s
    (subst (λ (k : RunsHeld). LeasesTaken (leases_put t) k.pools c.take_kept_leases.new.pools.items) c.self.view_is leased))
    hubbed))

pub returns-clause-walks : goal.returns-clause-walks
returns-clause-walks g c = walks_twice c.in_ok-take_kept_leases.ensures.walks c.in_ok-take_kept_leases.ensures.told c.in_ok-take_kept_hubs.ensures.walks

pub returns-in_err-take_kept_leases-clause-walks : goal.returns-in_err-take_kept_leases-clause-walks
returns-in_err-take_kept_leases-clause-walks g c = walks_once c.in_err-take_kept_leases.ensures.walks

pub returns-in_err-take_kept_hubs-clause-walks : goal.returns-in_err-take_kept_hubs-clause-walks
returns-in_err-take_kept_hubs-clause-walks g c = walks_twice c.in_ok-take_kept_leases.ensures.walks c.in_ok-take_kept_leases.ensures.told c.in_err-take_kept_hubs.ensures.walks
