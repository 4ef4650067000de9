use Rattle.std.proofs.Common.{◌≡◌}
use Rattle.off_defs.specs.State.{Tables}
use Rattle.off_query_rules.specs.Answers.{query_step_for, query_step}
use Rattle.off_query_rules.specs.declared.results.QueryStep.{QueryStep}
use Rattle.off_readers.proofs.LooksLemmas.{looks_settled}
use Rattle.off_query.proofs.StageLemmas.{step_of_case}
use Rattle.off_query.proofs.answering.reply.Goals as goal

pub returns : goal.returns
returns g c =
    let now = c.args.now.0 in
    let q = c.args.q.now in
    looks_settled c.settle.result c.kept.result (λ (step : QueryStep) (t : Tables). step ≡ query_step t now q) (query_step_for now q c.in_ok-case.case) c.kept.ensures c.settle.ensures
    c.in_ok-case.ensures
    (λ t same. step_of_case t now q c.in_ok-case.case same)
