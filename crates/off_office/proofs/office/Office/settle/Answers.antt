use Rattle.std.proofs.Common.{List, refl, sym, subst}
use Rattle.off_runs.specs.Held.{PoolHeld, KeepsPools}
use Rattle.off_runs.specs.Leases.{ground}
use Rattle.off_device_runs.specs.Ground.{device_ground}
use Rattle.off_users.specs.Kept.{NamedMap, Knows}
use Rattle.off_office.specs.Desk.{Desk}
use Rattle.off_office.specs.Conditions.{Follows, any_tables}
use Rattle.off_office.specs.contracts.office.Office.{the_view}
use Rattle.off_office.proofs.SettleLemmas.{settled_devices}
use Rattle.off_office.proofs.office.Office.settle.Goals as goal

pub returns-clause-ok : goal.returns-clause-ok
returns-clause-ok g c =
    subst (λ (before : Desk). Follows any_tables before (the_view (record { alloc = c.self.inside.alloc; now = c.self.inside.now; counts = c.args.counts.now; kept = c.forget.new.self; agreements = c.forget-2.new.self; runs = c.apply.new.self; device_runs = c.apply-2.new.self; users = c.apply-3.new.self; devices = c.follow.new.self; transfers = c.self.inside.transfers; connections = c.self.inside.connections; name_key = c.self.inside.name_key })) c.args.counts.now c.args.writes.now) c.self.view_is
    (record {
      held = refl;
      counts_are = refl;
      kept = c.forget.ensures;
      agreements = c.forget-2.ensures;
      pools = λ t opens keeps. c.apply.ensures.tables t opens (subst (λ (pools : List PoolHeld). KeepsPools pools (ground t)) (sym c.ready.ensures.pools) keeps);
      device_pools = λ t opens keeps. c.apply-2.ensures.tables t c.args.writes.now c.in_ok-of_devices.ensures.taken opens (subst (λ (pools : List PoolHeld). KeepsPools pools (device_ground t)) (sym c.ready-2.ensures.pools) keeps);
      users = λ t knows. c.apply-3.ensures.knows t (subst (λ (users : NamedMap). Knows users t) (sym c.ready-3.ensures.kept) knows);
      devices = λ t any knows. settled_devices c.self.inside.devices c.ready-4.new.self c.follow.new.self t c.args.writes.now c.ready-4.ensures.kept (c.follow.ensures t) knows;
    })
