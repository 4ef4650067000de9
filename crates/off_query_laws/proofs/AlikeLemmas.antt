-- Tables that agree on a relay's hub answer its queries alike.
use Rattle.std.proofs.Common.{◌≡◌, ℕ, Bool, true, false, cond, List, Option, Some, None, option_and_then, refl, sym, ap, ◌∙◌}
use Rattle.off_base.specs.declared.addresses.Ip4.{Ip4}
use Rattle.off_base.specs.declared.macs.Mac.{Mac}
use Rattle.off_defs.specs.declared.tables.Lease.{Lease}
use Rattle.off_defs.specs.State.{Tables}
use Rattle.off_account_rules.specs.Rows.{hub_in, lease_in, held_in}
use Rattle.off_account_rules.specs.Good.{owner_of, Good}
use Rattle.off_table_laws.proofs.TableLaws.{owners_hold}
use Rattle.off_asking.specs.Choice.{provided}
use Rattle.off_query_rules.specs.Asked.{giaddr_of, question_of}
use Rattle.off_query_rules.specs.Hubs.{wanted_hub, lies_in_hub}
use Rattle.off_query_rules.specs.Answers.{asked_address, case_at, query_case, query_step_for, query_step}
use Rattle.off_query_rules.specs.declared.questions.Question.{Question}
use Rattle.off_query_rules.specs.declared.questions.Question.TheVariants.{ByAddress, ByMac, Formless}
use Rattle.off_query_rules.specs.declared.wanted.Wanted.TheVariants.{Relay}
use Rattle.off_query_laws.specs.Laws.{AlikeFor, SeenAlike}

-- what is there and passes a test, where two tests and what is there agree behind the test
module _ {A : Type 0} (P Q : A → Bool) (same : (a : A) → P a ≡ Q a) where
  none_left : (a : A) (y : Option A) → P a ≡ false → ((b : A) → y ≡ Some b → Q b ≡ true → Some a ≡ Some b) → None ≡ provided Q y
  none_left a None lost back = refl
  none_left a (Some b) lost back =
      elim (Q b) as (λ v. Q b ≡ v → None ≡ cond v (Some b) None) [
        | true ↦ λ is. let e : Some a ≡ Some b = back b refl is in let s : P a ≡ Q a = same a in cc
        | false ↦ λ is. refl
      ] refl

  provided_alike : (x y : Option A) → ((a : A) → x ≡ Some a → P a ≡ true → y ≡ Some a) → ((b : A) → y ≡ Some b → Q b ≡ true → x ≡ Some b) → provided P x ≡ provided Q y
  provided_alike None None there back = refl
  provided_alike None (Some b) there back =
      elim (Q b) as (λ v. Q b ≡ v → None ≡ cond v (Some b) None) [
        | true ↦ λ is. back b refl is
        | false ↦ λ is. refl
      ] refl
  provided_alike (Some a) y there back =
      elim (P a) as (λ v. P a ≡ v → cond v (Some a) None ≡ provided Q y) [
        | true ↦ λ is. sym (ap (provided Q) (there a refl is) ∙ ap (λ v. cond v (Some a) None) (sym (same a) ∙ is))
        | false ↦ λ is. none_left a y is back
      ] refl

abbrev owned : Option Lease → Option Mac
owned lease = option_and_then (λ (l : Lease). owner_of l.hold) lease

module _ (t u : Tables) (good : Good t) (fine : Good u) (h : ℕ)
    (addresses : (a : Ip4) → lies_in_hub t h a ≡ lies_in_hub u h a)
    (leases : (a : Ip4) → lies_in_hub t h a ≡ true → lease_in t a ≡ lease_in u a) where
  there : (mac : Mac) (a : Ip4) → held_in t mac ≡ Some a → lies_in_hub t h a ≡ true → held_in u mac ≡ Some a
  there mac a held lies = (owners_hold u fine mac a).0 (ap owned (sym (leases a lies)) ∙ (owners_hold t good mac a).1 held)

  back : (mac : Mac) (a : Ip4) → held_in u mac ≡ Some a → lies_in_hub u h a ≡ true → held_in t mac ≡ Some a
  back mac a held lies = (owners_hold t good mac a).0 (ap owned (leases a (addresses a ∙ lies)) ∙ (owners_hold u fine mac a).1 held)

  address_alike : (question : Question) → provided (lies_in_hub t h) (asked_address t question) ≡ provided (lies_in_hub u h) (asked_address u question)
  address_alike (ByAddress a) = ap (λ v. cond v (Some a) None) (addresses a)
  address_alike (ByMac mac) = provided_alike (lies_in_hub t h) (lies_in_hub u h) addresses (held_in t mac) (held_in u mac) (there mac) (back mac)
  address_alike Formless = refl

  lease_alike : (x : Option Ip4) → option_and_then (lease_in t) (provided (lies_in_hub t h) x) ≡ option_and_then (lease_in u) (provided (lies_in_hub t h) x)
  lease_alike None = refl
  lease_alike (Some a) =
      elim (lies_in_hub t h a) as (λ v. lies_in_hub t h a ≡ v → option_and_then (lease_in t) (cond v (Some a) None) ≡ option_and_then (lease_in u) (cond v (Some a) None)) [
        | true ↦ λ is. leases a is
        | false ↦ λ is. refl
      ] refl

  case_alike : (question : Question) → hub_in t h ≡ hub_in u h → case_at t question (Some h) ≡ case_at u question (Some h)
  case_alike question row = λ i. record {
    site = row i;
    address = address_alike question i;
    lease = (lease_alike (asked_address t question) ∙ ap (option_and_then (lease_in u)) (address_alike question)) i;
  }

module _ (t u : Tables) (q : List ℕ) (good : Good t) (fine : Good u) (alike : AlikeFor (giaddr_of q) t u) where
  by_hub : (o : Option ℕ) → wanted_hub t (Relay (giaddr_of q)) ≡ o → case_at t (question_of q) o ≡ case_at u (question_of q) o
  by_hub None is = refl
  by_hub (Some h) is = case_alike t u good fine h (alike.addresses h is) (alike.leases h is) (question_of q) (alike.row h is)

  cases_alike : query_case t q ≡ query_case u q
  unfolding query_case
  cases_alike = by_hub (wanted_hub t (Relay (giaddr_of q))) refl ∙ ap (case_at u (question_of q)) alike.hub

pub seen_alike : SeenAlike
unfolding query_step
seen_alike t u now q good fine alike = ap (query_step_for now q) (cases_alike t u q good fine alike)
