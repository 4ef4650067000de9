use Rattle.std.proofs.Common.{◌≡◌, ◌≤◌, Option, length, subst}
use Rattle.off_base.specs.declared.addresses.Ip4.{Ip4}
use Rattle.off_base.specs.declared.macs.Mac.{Mac}
use Rattle.off_defs.specs.declared.tables.DeviceLease.{DeviceLease}
use Rattle.off_defs.specs.State.{Tables}
use Rattle.off_account_rules.specs.Rows.{devices}
use Rattle.off_behind.specs.Neighbours.{AreNeighbours, StandsIn, elsewhere}
use Rattle.off_cpe_rules.specs.Steps.{step_behind}
use Rattle.off_cpe_rules.specs.declared.results.DeviceStep.{DeviceStep}
use Rattle.off_cpe.specs.Calls.{most_elsewhere}
use Rattle.off_cpe.specs.Stages.{IsKnown, IsRead}
use Rattle.off_cpe.proofs.StageLemmas.{looks_settled, step_so, lease_so, if_ok_as}
use Rattle.off_cpe.proofs.answering.answer_by_rows.Goals as goal

pub returns-clause-told : goal.returns-clause-told
returns-clause-told g c =
    let now = c.args.now.0 in
    let m = c.args.m.now in
    let modem = c.args.modem in
    let known = c.args.known.now in
    let seen = c.neighbours-seen.result in
    looks_settled c.judge-step.result c.with_lease.result seen.own
    (λ (step : DeviceStep) (t : Tables). IsKnown known.devices.now known.pools.now known.modems.now now t → IsRead modem t → step ≡ step_behind t now m modem.mac)
    c.with_lease.ensures c.in_ok-case.ensures.told
    (λ t gathered. if_ok_as c.judge-step.result _ _ c.judge-step.ensures.step (λ step made stands read.
    made t stands.free (c.neighbours-seen.ensures.stands t stands.leases)
    (gathered stands (subst (λ (device : Mac). AreNeighbours seen now modem.mac device (devices t)) c.client.ensures (c.neighbours-seen.ensures.are (devices t) stands.leases)) read)))

pub returns-clause-stands : goal.returns-clause-stands
returns-clause-stands g c t stands =
    lease_so c.judge-step.result c.with_lease.result c.neighbours-seen.result.own (λ (own : Option (Ip4 × DeviceLease)). StandsIn own t) c.with_lease.ensures
    (c.neighbours-seen.ensures.stands t stands)

pub returns-clause-writes : goal.returns-clause-writes
returns-clause-writes g c =
    step_so c.judge-step.result c.with_lease.result c.neighbours-seen.result.own (λ (own : Option (Ip4 × DeviceLease)) (step : DeviceStep). length step.writes ≤ 2) c.with_lease.ensures
    c.judge-step.ensures.writes

pub returns-clause-aside : goal.returns-clause-aside
returns-clause-aside g c =
    step_so c.judge-step.result c.with_lease.result c.neighbours-seen.result.own
    (λ (own : Option (Ip4 × DeviceLease)) (step : DeviceStep). length (elsewhere own step.writes) ≤ most_elsewhere c.args.m.now) c.with_lease.ensures c.judge-step.ensures.aside
