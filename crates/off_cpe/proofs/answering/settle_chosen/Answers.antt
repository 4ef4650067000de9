use Rattle.std.proofs.Common.{◌≡◌, ◌≤◌, ℕ, Option, length, ap, ◌∙◌}
use Rattle.off_defs.specs.declared.tables.DeviceLease.{DeviceLease}
use Rattle.off_account_rules.specs.Rows.{passes}
use Rattle.off_behind.specs.Neighbours.{elsewhere}
use Rattle.off_cpe_rules.specs.Behind.{chosen_in}
use Rattle.off_cpe_rules.specs.Steps.{is_live_bound, device_step_for}
use Rattle.off_cpe_rules.specs.declared.results.DeviceStep.{DeviceStep}
use Rattle.off_cpe.specs.Calls.{most_elsewhere}
use Rattle.off_cpe.proofs.CaseLemmas.{case_answered}
use Rattle.off_cpe.proofs.LeaseLemmas.{own_lasts}
use Rattle.off_cpe.proofs.StageLemmas.{made_so}
use Rattle.off_cpe.proofs.WriteLemmas.{settled_few, settled_aside}
use Rattle.off_cpe.proofs.answering.settle_chosen.Goals as goal

pub returns-clause-step : goal.returns-clause-step
returns-clause-step c =
    let now = c.args.now.0 in
    let m = c.args.m.now in
    let case = c.args.case.now in
    let chosen = c.choose-chosen.result in
    let lease = c.own_lease-lease.result in
    made_so c.settle.result (device_step_for now c.args.modem m case chosen lease) _ c.settle.ensures (λ t stands had pool.
    let chose : chosen ≡ chosen_in t now m case = c.choose-chosen.ensures.is t stands.keeps pool ∙ ap (λ (n : ℕ). chosen_in t n m case) stands.moment in
    case_answered now c.args.modem m case t chosen lease chose (λ d.
    ap (λ (o : Option DeviceLease). passes (is_live_bound now) o) c.own_lease-lease.ensures ∙ own_lasts t now m case c.args.own chosen c.requires.own had chose d))

pub returns-clause-writes : goal.returns-clause-writes
returns-clause-writes c =
    made_so c.settle.result _ (λ (step : DeviceStep). length step.writes ≤ 2) c.settle.ensures
    (settled_few c.args.now.0 c.args.modem c.args.m.now c.args.case.now c.choose-chosen.result c.own_lease-lease.result)

pub returns-clause-aside : goal.returns-clause-aside
returns-clause-aside c =
    made_so c.settle.result _ (λ (step : DeviceStep). length (elsewhere c.args.own step.writes) ≤ most_elsewhere c.args.m.now) c.settle.ensures
    (settled_aside c.args.now.0 c.args.modem c.args.m.now c.args.case.now c.args.own c.requires.own c.choose-chosen.result c.own_lease-lease.result c.requires.early c.choose-chosen.ensures.claimed)
