use Rattle.std.proofs.Common.{List, refl, sym, subst}
use Rattle.std.proofs.lemmas.Result.{err_from_is_err_and}
use Rattle.off_outside.proofs.KeeperLemmas.{settled_then, not_begun_then}
use Rattle.off_runs.specs.Held.{PoolHeld, KeepsPools}
use Rattle.off_runs.specs.Leases.{ground}
use Rattle.off_device_runs.specs.Ground.{device_ground}
use Rattle.off_users.specs.Kept.{NamedMap, Knows}
use Rattle.off_office.specs.Desk.{Desk}
use Rattle.off_behind.specs.Neighbours.{StandsIn}
use Rattle.off_defs.specs.State.{Tables}
use Rattle.off_office.specs.Conditions.{Follows, KnowsDevices}
use Rattle.off_office.specs.contracts.office.Office.{the_view}
use Rattle.off_office.proofs.SettleLemmas.{settled_devices}
use Rattle.off_office.proofs.office.Office.settle_device.Goals as goal

pub returns-in_err-commit_all-clause-told : goal.returns-in_err-commit_all-clause-told
returns-in_err-commit_all-clause-told g c =
    let p = err_from_is_err_and c.from_residual-in_err-commit_all.result c.from_residual-in_err-commit_all.ensures.1 in
    rw (p.1, p.2) (not_begun_then (g.met.K.Keeper.rests c.args.keeper.now) c.in_ok-olds.ensures.told c.in_err-commit_all.ensures.told)

pub returns-clause-told : goal.returns-clause-told
returns-clause-told g c = settled_then (g.met.K.Keeper.rests c.args.keeper.now) c.in_ok-olds.ensures.told c.in_ok-commit_all.ensures.told

pub returns-clause-ok : goal.returns-clause-ok
returns-clause-ok g c =
    let stands = subst (λ (before : Desk). (t : Tables) → KnowsDevices before.devices t → StandsIn c.args.known t) (sym c.self.view_is) c.requires in
    subst (λ (before : Desk). Follows (g.K.Keeper.seen c.args.keeper.now).tables before (the_view (record { alloc = c.self.inside.alloc; now = c.self.inside.now; counts = c.self.inside.counts; kept = c.forget.new.self; agreements = c.forget-2.new.self; runs = c.apply.new.self; device_runs = c.apply-2.new.self; users = c.apply-3.new.self; devices = c.apply-4.new.self; transfers = c.self.inside.transfers; connections = c.self.inside.connections; name_key = c.self.inside.name_key })) before.counts c.args.writes.now) c.self.view_is
    (record {
      held = refl;
      counts_are = refl;
      kept = c.forget.ensures;
      agreements = c.forget-2.ensures;
      pools = λ t opens keeps. c.apply.ensures.tables t opens (subst (λ (pools : List PoolHeld). KeepsPools pools (ground t)) (sym c.ready.ensures.pools) keeps);
      device_pools = λ t opens keeps. c.apply-2.ensures.tables t c.args.writes.now c.in_ok-of_devices.ensures.taken opens (subst (λ (pools : List PoolHeld). KeepsPools pools (device_ground t)) (sym c.ready-2.ensures.pools) keeps);
      users = λ t knows. c.apply-3.ensures.knows t (subst (λ (users : NamedMap). Knows users t) (sym c.ready-3.ensures.kept) knows);
      devices = λ t told knows. settled_devices c.self.inside.devices c.ready-4.new.self c.apply-4.new.self t c.args.writes.now c.ready-4.ensures.kept (c.apply-4.ensures t ((c.in_ok-olds.ensures.told.tables t told).1 (stands t knows))) knows;
    })
