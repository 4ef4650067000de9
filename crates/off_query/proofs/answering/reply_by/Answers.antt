use Rattle.std.proofs.Common.{◌≡◌}
use Rattle.off_defs.specs.State.{Tables}
use Rattle.off_runs.specs.Held.{KeepsPools}
use Rattle.off_runs.specs.Leases.{ground}
use Rattle.off_query_rules.specs.Answers.{query_step_for, query_step}
use Rattle.off_query_rules.specs.declared.results.QueryStep.{QueryStep}
use Rattle.off_readers.proofs.LooksLemmas.{looks_settled}
use Rattle.off_query.proofs.StageLemmas.{step_of_case}
use Rattle.off_query.proofs.answering.reply_by.Goals as goal

pub returns-clause-told : goal.returns-clause-told
returns-clause-told g c =
    let now = c.args.now.0 in
    let q = c.args.q.now in
    looks_settled c.settle.result c.kept.result (λ (step : QueryStep) (t : Tables). KeepsPools c.args.runs.now.pools (ground t) → step ≡ query_step t now q) (query_step_for now q c.in_ok-case.case)
    c.kept.ensures c.settle.ensures c.in_ok-case.ensures.told
    (λ t same keeps. step_of_case t now q c.in_ok-case.case (same keeps))
