-- Whether a key has a row, as rules and limits ask it.
use Rattle.std.proofs.Common.{◌≡◌, ℕ, Bool, true, false, cond, not, Option, Some, None, is_some, is_none, option_and_then, refl, sym, ap, ◌∙◌}
use Rattle.off_base.specs.Choices.{when}
use Rattle.off_defs.specs.declared.keys.Key.{Key}
use Rattle.off_defs.specs.declared.keys.Key.TheVariants as key
use Rattle.off_defs.specs.declared.tables.Row.{Row}
use Rattle.off_defs.specs.declared.tables.Row.TheVariants as row
use Rattle.off_orders.specs.declared.rules.Rule.{Rule}
use Rattle.off_orders.specs.declared.rules.Rule.TheVariants as rule
use Rattle.off_defs.specs.State.{Tables}
use Rattle.off_defs.specs.Tables.{row_at}
use Rattle.off_account_rules.specs.Rows.{possible, seen_at, as_site, as_subscriber, as_class, site_fits, subscriber_fits, class_is_good}
use Rattle.off_orders.specs.Clerk.{no_row, no_subscriber, no_class, no_hub}

pub absent : {X : Type 0} (o : Option X) → is_none o ≡ not (is_some o)
absent None = refl
absent (Some x) = refl

subscriber_absent : (n : ℕ) (o : Option Row) → is_none (option_and_then as_subscriber (possible (key.Subscriber n) o)) ≡ not (is_some (possible (key.Subscriber n) o))
subscriber_absent n None = refl
subscriber_absent n (Some (row.Subscriber s)) =
    elim (subscriber_fits s) as (λ b. is_none (option_and_then as_subscriber (cond b (Some (row.Subscriber s)) None)) ≡ not (is_some (cond b (Some (row.Subscriber s)) None))) [ true ↦ refl | false ↦ refl ]
subscriber_absent n (Some _) = refl

class_absent : (n : ℕ) (o : Option Row) → is_none (option_and_then as_class (possible (key.Class n) o)) ≡ not (is_some (possible (key.Class n) o))
class_absent n None = refl
class_absent n (Some (row.Class c)) =
    elim (class_is_good c.settings) as (λ b. is_none (option_and_then as_class (cond b (Some (row.Class c)) None)) ≡ not (is_some (cond b (Some (row.Class c)) None))) [ true ↦ refl | false ↦ refl ]
class_absent n (Some _) = refl

hub_absent : (n : ℕ) (o : Option Row) → is_none (option_and_then as_site (possible (key.Hub n) o)) ≡ not (is_some (possible (key.Hub n) o))
hub_absent n None = refl
hub_absent n (Some (row.Site s)) =
    elim (site_fits s) as (λ b. is_none (option_and_then as_site (cond b (Some (row.Site s)) None)) ≡ not (is_some (cond b (Some (row.Site s)) None))) [ true ↦ refl | false ↦ refl ]
hub_absent n (Some _) = refl

pub row_is : (k : Key) (t : Tables) (there : Bool) → there ≡ is_some (seen_at t k) → when (not there) rule.NoRow ≡ no_row t k
row_is k t there says = ap (λ b. when (not b) rule.NoRow) says ∙ ap (λ b. when b rule.NoRow) (sym (absent (seen_at t k)))

pub row_present : (k : Key) (t : Tables) → no_row t k ≡ None → is_some (seen_at t k) ≡ true
row_present k t none =
    elim (seen_at t k) as (λ o. when (is_none o) rule.NoRow ≡ None → is_some o ≡ true) [ None ↦ λ e. cc | Some x ↦ λ e. refl ] none

pub subscriber_is : (n : ℕ) (t : Tables) (there : Bool) (broken : Option Rule) → there ≡ is_some (seen_at t (key.Subscriber n)) → broken ≡ when (not there) rule.NoSubscriber
    → broken ≡ no_subscriber t n
subscriber_is n t there broken says is =
    is ∙ ap (λ b. when (not b) rule.NoSubscriber) says ∙ ap (λ b. when b rule.NoSubscriber) (sym (subscriber_absent n (row_at t (key.Subscriber n))))

pub class_is : (n : ℕ) (t : Tables) (there : Bool) (broken : Option Rule) → there ≡ is_some (seen_at t (key.Class n)) → broken ≡ when (not there) rule.NoClass
    → broken ≡ no_class t n
class_is n t there broken says is =
    is ∙ ap (λ b. when (not b) rule.NoClass) says ∙ ap (λ b. when b rule.NoClass) (sym (class_absent n (row_at t (key.Class n))))

pub hub_is : (n : ℕ) (t : Tables) (there : Bool) (broken : Option Rule) → there ≡ is_some (seen_at t (key.Hub n)) → broken ≡ when (not there) rule.NoHub
    → broken ≡ no_hub t n
hub_is n t there broken says is =
    is ∙ ap (λ b. when (not b) rule.NoHub) says ∙ ap (λ b. when b rule.NoHub) (sym (hub_absent n (row_at t (key.Hub n))))
