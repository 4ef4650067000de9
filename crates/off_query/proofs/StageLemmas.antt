-- A question's step and its rows, by what the rules say of them.
use Rattle.std.proofs.Common.{◌≡◌, ℕ, List, refl, ap}
use Rattle.off_defs.specs.State.{Tables}
use Rattle.off_query_rules.specs.declared.cases.QueryCase.{QueryCase}
use Rattle.off_query_rules.specs.declared.wanted.Wanted.TheVariants.{Relay}
use Rattle.off_query_rules.specs.Asked.{giaddr_of, question_of}
use Rattle.off_query_rules.specs.Hubs.{wanted_hub}
use Rattle.off_query_rules.specs.Answers.{case_at, query_case, query_step_for, query_step}

pub step_of_case : (t : Tables) (now : ℕ) (q : List ℕ) (case : QueryCase) → case ≡ query_case t q → query_step_for now q case ≡ query_step t now q
unfolding query_step
step_of_case t now q case same = ap (query_step_for now q) same

pub case_by_hub : (t : Tables) (q : List ℕ) → query_case t q ≡ case_at t (question_of q) (wanted_hub t (Relay (giaddr_of q)))
unfolding query_case
case_by_hub t q = refl
