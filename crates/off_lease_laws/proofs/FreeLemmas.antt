-- The least free address, the chosen one, and how an address stands.
use Rattle.std.proofs.Common.{◌≡◌, ℕ, zero, suc, ◌+◌, ◌-◌, ◌≤◌, ◌<◌, Bool, true, false, cond, leb, Option, Some, None, option_and_then, ◌∷◌, map, MatchOption, ◌⊎◌, inl, inr, refl, sym, ap, ◌∙◌, arith}
use Rattle.std.proofs.lemmas.Bool.{and_parts, and_from, leb-true, leb-false, false_from_ne_true}
use Rattle.std.specs.List.{find, range_with_len}
use Rattle.off_base.specs.declared.addresses.Ip4.{Ip4}
use Rattle.off_base.specs.declared.macs.Mac.{Mac}
use Rattle.off_defs.specs.declared.tables.Pool.{Pool}
use Rattle.off_defs.specs.declared.tables.Hold.{Hold}
use Rattle.off_defs.specs.declared.tables.Hold.TheVariants.{Offered, Bound, Declined}
use Rattle.off_defs.specs.declared.tables.Lease.{Lease}
use Rattle.off_defs.specs.State.{Tables}
use Rattle.off_account_rules.specs.Rows.{lease_in, has_address}
use Rattle.off_account_rules.specs.Good.{owner_of}
use Rattle.off_table_laws.proofs.ListLemmas.{In, none_found}
use Rattle.off_asking.specs.Asking.{ip}
use Rattle.off_asking.specs.Choice.{addresses, least_of, provided}
use Rattle.off_lease_rules.specs.Free.{has_ended, is_free, least_free, choice}
use Rattle.off_lease_laws.specs.Laws.{LeastIsLeast, ChoiceFits, FreeStandsFree, LiveForItsOwner, OneLeaseAClient, free, standing_of, standing, live_for}
use Rattle.off_lease_laws.proofs.ChoiceLemmas.{least_found, neither, chosen_fits}

-- a number of a range is in it
pub in_range : (first count k : ℕ) → first ≤ k → k < first + count → In (ip k) (map ip (range_with_len first count))
in_range first zero k a b = absurd (omega (arith, a, b))
in_range first (suc count) k a b =
    elim (leb k first) as (λ t. leb k first ≡ t → In (ip k) (ip first ∷ map ip (range_with_len (first + 1) count))) [
      | true ↦ λ t. let n : k ≡ first = omega (arith, a, leb-true k first t) in inl (ap ip n)
      | false ↦ λ t. inr (in_range (first + 1) count k (above t) (omega (arith, b)))
    ] refl
  where
    above : leb k first ≡ false → first + 1 ≤ k
    above t = let more = leb-false k first t in omega (arith, more)

-- the first that passes is the least that does
first_least : (p : Ip4 → Bool) (first count : ℕ) (least : Ip4) (k : ℕ) → find p (map ip (range_with_len first count)) ≡ Some least
    → p (ip k) ≡ true → first ≤ k → least.0 ≤ k
first_least p first zero least k e t a = cc
first_least p first (suc count) least k e t a =
    elim (p (ip first)) as (λ b. p (ip first) ≡ b → cond b (Some (ip first)) (find p (map ip (range_with_len (first + 1) count))) ≡ Some least → least.0 ≤ k) [
      | true ↦ λ s f. let same : ip first ≡ least = cc in let n : first ≡ least.0 = ap (λ (x : Ip4). x.0) same in omega (arith, n, a)
      | false ↦ λ s f. first_least p (first + 1) count least k f t (beyond s)
    ] refl e
  where
    beyond : p (ip first) ≡ false → first + 1 ≤ k
    beyond s =
        elim (leb k first) as (λ b. leb k first ≡ b → first + 1 ≤ k) [
          | true ↦ λ c. let n : k ≡ first = omega (arith, a, leb-true k first c) in let u : p (ip first) ≡ true = ap (λ x. p (ip x)) (sym n) ∙ t in cc
          | false ↦ λ c. let more = leb-false k first c in omega (arith, more)
        ] refl

module _ (t : Tables) (now : ℕ) (pool : Pool) where
  bounds : (address : Ip4) → is_free t now pool address ≡ true → (pool.first.0 ≤ address.0) × (address.0 < pool.first.0 + (pool.last.0 + 1 - pool.first.0))
  bounds address h =
      let within = and_parts (leb pool.first.0 address.0) (leb address.0 pool.last.0) (and_parts (has_address pool address) (has_ended now (lease_in t address)) h).0 in
      let above = leb-true pool.first.0 address.0 within.0 in
      let below = leb-true address.0 pool.last.0 within.1 in
      (above, omega (arith, above, below))

  in_pool : (address : Ip4) → is_free t now pool address ≡ true → In address (addresses pool)
  in_pool address h = let b = bounds address h in in_range pool.first.0 (pool.last.0 + 1 - pool.first.0) address.0 b.0 b.1

  none_free : least_free t now pool ≡ None → (address : Ip4) → is_free t now pool address ≡ false
  unfolding least_of
  none_free e address =
      false_from_ne_true (is_free t now pool address) (λ h. let no = none_found (is_free t now pool) (addresses pool) e address (in_pool address h) in cc)

  least_below : (least address : Ip4) → least_free t now pool ≡ Some least → is_free t now pool address ≡ true → least.0 ≤ address.0
  unfolding least_of
  least_below least address e h =
      first_least (is_free t now pool) pool.first.0 (pool.last.0 + 1 - pool.first.0) least address.0 e h (bounds address h).0

pub least_is_least : LeastIsLeast
least_is_least t now pool =
    elim (least_free t now pool) as (λ o. least_free t now pool ≡ o
    → MatchOption o ((address : Ip4) → is_free t now pool address ≡ false)
    (λ least. (is_free t now pool least ≡ true) × ((address : Ip4) → is_free t now pool address ≡ true → least.0 ≤ address.0))) [
      | None ↦ λ e. none_free t now pool e
      | Some least ↦ λ e. ((least_found t now pool least e).1, λ address h. least_below t now pool least address e h)
    ] refl

not_provided : (p : Ip4 → Bool) (held : Option Ip4) (address : Ip4) → provided p held ≡ None → p address ≡ true → held ≡ Some address → ⊥
not_provided p held address e h is =
    let a : cond (p address) (Some address) None ≡ None = sym (ap (provided p) is) ∙ e in
    let b : ◌≡◌ {A = Option Ip4} (Some address) None = sym (ap (λ t. cond t (Some address) None) h) ∙ a in
    cc

pub choice_fits : ChoiceFits
choice_fits t now pool held asked =
    elim (choice t now pool held asked) as (λ o. choice t now pool held asked ≡ o
    → MatchOption o ((address : Ip4) → has_address pool address ≡ true → (held ≡ Some address → ⊥) × (is_free t now pool address ≡ false))
    (λ chosen. (has_address pool chosen ≡ true) × ((held ≡ Some chosen) ⊎ (is_free t now pool chosen ≡ true)))) [
      | None ↦ λ e. λ address w.
          let none = neither (provided (has_address pool) held) _ e in
          let least = neither (provided (is_free t now pool) asked) (least_free t now pool) none.1 in
          (not_provided (has_address pool) held address none.0 w, none_free t now pool least.1 address)
      | Some chosen ↦ λ e. chosen_fits t now pool held asked chosen e
    ] refl

-- how an address stands
held_not_free : (hold : Hold) → standing_of hold ≡ free → ⊥
held_not_free (Offered mac) e = cc
held_not_free (Bound mac) e = cc
held_not_free Declined e = cc

stands_free : (now : ℕ) (o : Option Lease) → standing now o ≡ free → has_ended now o ≡ true
stands_free now None e = refl
stands_free now (Some lease) e =
    elim (leb lease.expiry.0 now) as (λ b. cond b free (standing_of lease.hold) ≡ free → b ≡ true) [ true ↦ λ f. refl | false ↦ λ f. absurd (held_not_free lease.hold f) ] e

ended_free : (now : ℕ) (o : Option Lease) → has_ended now o ≡ true → standing now o ≡ free
ended_free now None e = refl
ended_free now (Some lease) e = ap (λ b. cond b free (standing_of lease.hold)) e

pub free_stands_free : FreeStandsFree
free_stands_free t now pool address within = (
  λ e. and_from (has_address pool address) (has_ended now (lease_in t address)) within (stands_free now (lease_in t address) e),
  λ h. ended_free now (lease_in t address) (and_parts (has_address pool address) (has_ended now (lease_in t address)) h).1,
)

hold_owner : (hold : Hold) (mac : Mac) → live_for (standing_of hold) ≡ Some mac → owner_of hold ≡ Some mac
hold_owner (Offered other) mac e = e
hold_owner (Bound other) mac e = e
hold_owner Declined mac e = cc

live_owner : (now : ℕ) (o : Option Lease) (mac : Mac) → live_for (standing now o) ≡ Some mac → option_and_then (λ (lease : Lease). owner_of lease.hold) o ≡ Some mac
live_owner now None mac e = cc
live_owner now (Some lease) mac e =
    elim (leb lease.expiry.0 now) as (λ b. live_for (cond b free (standing_of lease.hold)) ≡ Some mac → owner_of lease.hold ≡ Some mac) [ true ↦ λ f. cc | false ↦ λ f. hold_owner lease.hold mac f ] e

pub live_for_its_owner : LiveForItsOwner
live_for_its_owner t now address mac e = live_owner now (lease_in t address) mac e

pub one_lease_a_client : OneLeaseAClient
one_lease_a_client t mac one other agree e f = let a = (agree mac one).0 e in let b = (agree mac other).0 f in cc
