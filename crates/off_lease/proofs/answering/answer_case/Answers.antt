use Rattle.std.proofs.Common.{◌≡◌, ℕ, true, ap, ◌∙◌}
use Rattle.off_defs.specs.State.{Tables}
use Rattle.off_runs.specs.Held.{StandsFor}
use Rattle.off_runs.specs.Leases.{ground}
use Rattle.off_asking.specs.Asking.{is_discover}
use Rattle.off_lease_rules.specs.Free.{chosen_in, pool_for}
use Rattle.off_lease_rules.specs.Steps.{lease_step_for, lease_step_in}
use Rattle.off_lease_rules.specs.declared.results.LeaseStep.{LeaseStep}
use Rattle.off_lease.proofs.CaseLemmas.{case_answered}
use Rattle.off_readers.proofs.LooksLemmas.{looks_settled}
use Rattle.off_lease.proofs.answering.answer_case.Goals as goal

pub returns-clause-told : goal.returns-clause-told
returns-clause-told g c =
    let now = c.args.now.0 in
    let m = c.args.m.now in
    let case = c.args.case.now in
    let chosen = c.choose-chosen.result in
    let lease = c.in_ok-lease.lease in
    looks_settled c.settle.result c.kept.result (λ (step : LeaseStep) (t : Tables). StandsFor c.args.runs.now (ground t) now → (is_discover m ≡ true → case.pool ≡ pool_for t m) → step ≡ lease_step_in t now m case (chosen_in t now m case))
    (lease_step_for now m case chosen lease) c.kept.ensures c.settle.ensures c.in_ok-lease.ensures.told
    (λ t leased stands pool. case_answered t now m case chosen lease (c.choose-chosen.ensures.is t stands.keeps pool ∙ ap (λ (n : ℕ). chosen_in t n m case) stands.moment) leased)
