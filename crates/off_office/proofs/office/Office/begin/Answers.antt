use Rattle.std.proofs.lemmas.Result.{err_from_is_err_and}
use Rattle.off_defs.specs.State.{Tables}
use Rattle.off_outside.proofs.KeeperLemmas.{reads_then}
use Rattle.off_account_rules.specs.Rows.{devices}
use Rattle.off_runs.specs.Held.{KeepsPools}
use Rattle.off_runs.specs.Leases.{ground}
use Rattle.off_device_runs.specs.Ground.{device_ground}
use Rattle.off_behind.specs.Buckets.{leases_in}
use Rattle.off_behind.proofs.FollowLemmas.{stands_keeps}
use Rattle.off_office.proofs.OpeningLemmas.{not_done, walks_five, walks_more, three_are_few, five_are_few, not_started_then}
use Rattle.off_office.proofs.TransferLemmas.{started}
use Rattle.off_office.proofs.office.Office.begin.Goals as goal

pub returns-clause-told : goal.returns-clause-told
returns-clause-told g c =
    let pools = c.in_ok-runs.runs.pools in
    let device_pools = c.in_ok-device_runs.device_runs.pools in
    started c.empty.result c.args.counts c.args.users pools device_pools (leases_in c.in_ok-devices.devices) _ _ c.empty.ensures.ok c.empty.ensures.err (g.met.K.Keeper.rests c.args.keeper.now)
    (reads_then
    (reads_then {R = λ (t : Tables). KeepsPools pools (ground t) × KeepsPools device_pools (device_ground t)} c.in_ok-runs.ensures.told c.in_ok-device_runs.ensures.told (λ t stands others. (stands.keeps, others.keeps)))
    c.in_ok-devices.ensures.told (λ t both keeps. (both.0, (both.1, stands_keeps c.in_ok-devices.devices (devices t) keeps))))

pub returns-clause-walks : goal.returns-clause-walks
returns-clause-walks g c =
    walks_more (walks_five c.in_ok-runs.ensures.walks c.in_ok-runs.ensures.told c.in_ok-device_runs.ensures.walks)
    (reads_then c.in_ok-runs.ensures.told c.in_ok-device_runs.ensures.told (λ t stands others. stands)) c.in_ok-devices.ensures.walks

pub returns-in_err-devices-clause-walks : goal.returns-in_err-devices-clause-walks
returns-in_err-devices-clause-walks g c =
    walks_more (walks_five c.in_ok-runs.ensures.walks c.in_ok-runs.ensures.told c.in_ok-device_runs.ensures.walks)
    (reads_then c.in_ok-runs.ensures.told c.in_ok-device_runs.ensures.told (λ t stands others. stands)) c.in_err-devices.ensures.walks

pub returns-in_err-device_runs-clause-walks : goal.returns-in_err-device_runs-clause-walks
returns-in_err-device_runs-clause-walks g c = five_are_few (walks_five c.in_ok-runs.ensures.walks c.in_ok-runs.ensures.told c.in_err-device_runs.ensures.walks)

pub returns-in_err-runs-clause-walks : goal.returns-in_err-runs-clause-walks
returns-in_err-runs-clause-walks g c = three_are_few c.in_err-runs.ensures.walks

pub returns-in_err-devices-clause-told : goal.returns-in_err-devices-clause-told
returns-in_err-devices-clause-told g c =
    let p = err_from_is_err_and c.from_residual-in_err-devices.result c.from_residual-in_err-devices.ensures.1 in
    rw (p.1, p.2)
    (not_started_then _ _ (g.met.K.Keeper.rests c.args.keeper.now)
    (reads_then c.in_ok-runs.ensures.told c.in_ok-device_runs.ensures.told (λ t stands others. stands)) (not_done _ (g.met.K.Keeper.rests _) c.in_err-devices.ensures.told))

pub returns-in_err-device_runs-clause-told : goal.returns-in_err-device_runs-clause-told
returns-in_err-device_runs-clause-told g c =
    let p = err_from_is_err_and c.from_residual-in_err-device_runs.result c.from_residual-in_err-device_runs.ensures.1 in
    rw (p.1, p.2) (not_started_then _ _ (g.met.K.Keeper.rests c.args.keeper.now) c.in_ok-runs.ensures.told (not_done _ (g.met.K.Keeper.rests _) c.in_err-device_runs.ensures.told))

pub returns-in_err-runs-clause-told : goal.returns-in_err-runs-clause-told
returns-in_err-runs-clause-told g c =
    let p = err_from_is_err_and c.from_residual.result c.from_residual.ensures.1 in
    rw (p.1, p.2) (not_done _ (g.met.K.Keeper.rests c.args.keeper.now) c.in_err-runs.ensures.told)
