-- In every state of a run devices' leases are right, and so at each turn.
use Rattle.std.proofs.Common.{◌≡◌, Some, sym, ap, ◌∙◌}
use Rattle.off_base.specs.declared.addresses.Ip4.{Ip4}
use Rattle.off_base.specs.declared.macs.Mac.{Mac}
use Rattle.off_defs.specs.declared.tables.DeviceLease.{DeviceLease}
use Rattle.off_defs.specs.State.{State}
use Rattle.off_account_rules.specs.Good.{Good, device_owner}
use Rattle.off_table_laws.proofs.TableLaws.{one_address_a_device, devices_lie_in_a_pool, pools_have_no_devices, leases_stand}
use Rattle.off_book.specs.Run.{effect_of}
use Rattle.off_laws.proofs.RunLaws.{run_keeps_good}
use Rattle.off_laws.proofs.StepLaws.{step_good}
use Rattle.off_cpe_runs.specs.Holding.{IsLiveFor, DevicesAreRight}
use Rattle.off_cpe_runs.specs.Laws.{DevicesStayRight, DevicesHoldOverRuns}
use Rattle.off_cpe_runs.proofs.Limits.{grants_are_within_limits}
use Rattle.off_cpe_runs.proofs.Leaving.{devices_leave_others}

-- the row has one owner
one_owner : (s : State) (address : Ip4) (one other : Mac × Mac) → IsLiveFor s one address → IsLiveFor s other address → one ≡ other
one_owner s address one other first second =
    let rows : Some first.lease ≡ Some second.lease = sym first.is ∙ second.is in
    let same : first.lease ≡ second.lease = cc in
    let both : Some one ≡ Some other = sym first.owned ∙ ap (λ (l : DeviceLease). device_owner l.hold) same ∙ second.owned in
    cc

good_right : (s : State) → Good s.tables → DevicesAreRight s
good_right s good = record {
  one_device = one_owner s;
  one_address = one_address_a_device s.tables good;
  in_one_pool = devices_lie_in_a_pool s.tables good;
  aside = pools_have_no_devices s.tables good;
  apart = λ address lease there.
      let lies = (leases_stand s.tables good address lease there).1 in
      pools_have_no_devices s.tables good address lies.number lies.pool lies.there lies.within;
}

pub devices_stay_right : DevicesStayRight
devices_stay_right s last turns good run = good_right last (run_keeps_good s last turns run good)

pub devices_hold_over_runs : DevicesHoldOverRuns
devices_hold_over_runs s turns good = record {
  first = good_right s good;
  each = λ before later turn from to parts up_to step.
      let fine : Good from.tables = run_keeps_good s from before up_to good in
      record {
        right = good_right from fine;
        right_again = good_right to (step_good from turn.event turn.outcome (effect_of turn to) step fine);
        limit = grants_are_within_limits from to turn fine step;
        others = devices_leave_others from to turn step;
      };
}
