use Rattle.std.proofs.Common.{◌≡◌, Some, sym, ap, ◌∙◌}
use Rattle.off_base.specs.declared.addresses.Ip4.{Ip4}
use Rattle.off_defs.specs.State.{Tables}
use Rattle.off_outside.proofs.KeeperLemmas.{reads_none}
use Rattle.off_runs.specs.Held.{KeepsPools}
use Rattle.off_runs.specs.Leases.{ground}
use Rattle.off_query_rules.specs.Asked.{question_of}
use Rattle.off_query_rules.specs.Hubs.{wanted_hub}
use Rattle.off_query_rules.specs.Answers.{case_at, query_case}
use Rattle.off_query_rules.specs.declared.cases.QueryCase.{QueryCase}
use Rattle.off_query_rules.specs.declared.questions.Question.{Question}
use Rattle.off_query_rules.specs.declared.wanted.Wanted.TheVariants.{Relay}
use Rattle.off_readers.proofs.LooksLemmas.{looks_as}
use Rattle.off_query.proofs.StageLemmas.{case_by_hub}
use Rattle.off_query.proofs.keeping.gather.Goals as goal

pub returns-in-Some-clause-told : goal.returns-in-Some-clause-told
returns-in-Some-clause-told g c =
    let q = c.args.q.now in
    looks_as _ _ c.gather_of.result (λ (case : QueryCase) (t : Tables). KeepsPools c.args.runs.now.pools (ground t) → case ≡ case_at t c.question_of.result (Some c.in-Some.hub))
    (λ (case : QueryCase) (t : Tables). KeepsPools c.args.runs.now.pools (ground t) → case ≡ query_case t q) c.gather_of.ensures.told
    (λ case t is keeps.
    is keeps
    ∙ ap (λ (k : Question). case_at t k (Some c.in-Some.hub)) c.question_of.ensures
    ∙ ap (case_at t (question_of q)) (c.in-Some.ensures t keeps ∙ ap (λ (a : Ip4). wanted_hub t (Relay a)) c.giaddr.ensures)
    ∙ sym (case_by_hub t q))

pub returns-in-None-clause-told : goal.returns-in-None-clause-told
returns-in-None-clause-told g c =
    let q = c.args.q.now in
    reads_none (λ t keeps.
    c.no_case.ensures
    ∙ ap (case_at t (question_of q)) (c.in-None.ensures t keeps ∙ ap (λ (a : Ip4). wanted_hub t (Relay a)) c.giaddr.ensures)
    ∙ sym (case_by_hub t q))
