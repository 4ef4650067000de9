use Rattle.std.proofs.Common.{◌≡◌, true}
use Rattle.off_defs.specs.State.{Tables}
use Rattle.off_runs.specs.Held.{StandsFor}
use Rattle.off_runs.specs.Leases.{ground}
use Rattle.off_asking.specs.Asking.{is_discover}
use Rattle.off_lease_rules.specs.Free.{chosen_in, pool_for}
use Rattle.off_lease_rules.specs.Steps.{lease_step, lease_step_in, refuses}
use Rattle.off_lease_rules.specs.declared.results.LeaseStep.{LeaseStep}
use Rattle.off_lease.specs.Stages.{knowing}
use Rattle.off_lease.proofs.CaseLemmas.{rows_refuse, rows_accept, asked_pool, gathered_enough, both_enough}
use Rattle.off_readers.proofs.LooksLemmas.{looks_settled, looks_then}
use Rattle.off_lease.proofs.answering.answer_by_rows.Goals as goal

pub returns-in-Some-clause-told : goal.returns-in-Some-clause-told
returns-in-Some-clause-told g c =
    let now = c.args.now.0 in
    let m = c.args.m.now in
    let case = c.in_ok-case.case in
    looks_settled c.refuse.result c.kept.result (λ (step : LeaseStep) (t : Tables). StandsFor c.args.runs.now (ground t) now → step ≡ lease_step t now m) (refuses m (knowing case.site) c.in-Some.word) c.kept.ensures c.refuse.ensures
    c.in_ok-case.ensures.told
    (λ t seen stands. rows_refuse t now m case c.in-Some.word (seen stands.keeps) c.requires c.in-Some.ensures)

pub returns-in-None-clause-told : goal.returns-in-None-clause-told
returns-in-None-clause-told g c =
    let now = c.args.now.0 in
    let m = c.args.m.now in
    let case = c.in_ok-case.case in
    looks_then _ c.answer_case.result (λ (step : LeaseStep) (t : Tables). StandsFor c.args.runs.now (ground t) now → (is_discover m ≡ true → case.pool ≡ pool_for t m) → step ≡ lease_step_in t now m case (chosen_in t now m case))
    (λ (step : LeaseStep) (t : Tables). StandsFor c.args.runs.now (ground t) now → step ≡ lease_step t now m) c.in_ok-case.ensures.told c.answer_case.ensures.told
    (λ step t seen is stands. rows_accept t now m case step (seen stands.keeps) (is stands (asked_pool t m case (seen stands.keeps))))

pub returns-in-Some-clause-spent : goal.returns-in-Some-clause-spent
returns-in-Some-clause-spent g c = gathered_enough c.args.m.now c.in_ok-case.ensures.spent

pub returns-in-None-clause-spent : goal.returns-in-None-clause-spent
returns-in-None-clause-spent g c = both_enough c.args.m.now c.in_ok-case.ensures.spent c.answer_case.ensures.spent
