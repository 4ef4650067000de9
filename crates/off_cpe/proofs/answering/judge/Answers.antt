use Rattle.std.proofs.Common.{◌≡◌, ◌≤◌, length, arith}
use Rattle.off_behind.specs.Neighbours.{elsewhere}
use Rattle.off_cpe_rules.specs.Steps.{refuses}
use Rattle.off_cpe_rules.specs.declared.results.DeviceStep.{DeviceStep}
use Rattle.off_cpe.specs.Calls.{most_elsewhere}
use Rattle.off_cpe.proofs.CaseLemmas.{row_step, late_step, cased_pool}
use Rattle.off_cpe.proofs.StageLemmas.{if_ok_as, made_so}
use Rattle.off_cpe.proofs.answering.judge.Goals as goal

pub returns-in-Some-clause-step : goal.returns-in-Some-clause-step
returns-in-Some-clause-step c =
    made_so c.refuse.result (refuses c.args.m.now c.args.case.now c.in-Some.word) _ c.refuse.ensures (λ t stands had seen.
    row_step t c.args.now.0 c.args.modem c.args.m.now c.args.case.now c.in-Some.word seen c.requires.passed c.in-Some.ensures)

pub returns-in-Some-clause-writes : goal.returns-in-Some-clause-writes
returns-in-Some-clause-writes c =
    made_so c.refuse.result (refuses c.args.m.now c.args.case.now c.in-Some.word) (λ (step : DeviceStep). length step.writes ≤ 2) c.refuse.ensures (omega arith)

pub returns-in-Some-clause-aside : goal.returns-in-Some-clause-aside
returns-in-Some-clause-aside c =
    made_so c.refuse.result (refuses c.args.m.now c.args.case.now c.in-Some.word) (λ (step : DeviceStep). length (elsewhere c.args.own step.writes) ≤ most_elsewhere c.args.m.now) c.refuse.ensures
    (omega arith)

pub returns-in-None-clause-step : goal.returns-in-None-clause-step
returns-in-None-clause-step c =
    if_ok_as c.settle_chosen.result _ _ c.settle_chosen.ensures.step (λ step made t stands had seen.
    late_step t c.args.now.0 c.args.modem c.args.m.now c.args.case.now step seen (made t stands had (cased_pool t c.args.now.0 c.args.modem c.args.m.now c.args.case.now seen)))
