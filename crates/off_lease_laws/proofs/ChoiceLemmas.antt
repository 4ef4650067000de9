-- What is known of the pool of a message, and of the address that is chosen in it.
use Rattle.std.proofs.Common.{◌≡◌, ℕ, Bool, true, false, cond, Option, Some, None, is_some, option_map, option_and_then, List, [], ◌∷◌, ◌⊎◌, inl, inr, refl, sym, ap, subst, ◌∙◌}
use Rattle.std.proofs.lemmas.Bool.{and_parts}
use Rattle.std.specs.Option.{option_or}
use Rattle.std.specs.List.{find}
use Rattle.std.specs.FinMap as map
use Rattle.off_base.specs.declared.addresses.Ip4.{Ip4}
use Rattle.off_defs.specs.declared.keys.Key.{Key}
use Rattle.off_defs.specs.declared.keys.Key.TheVariants as key
use Rattle.off_defs.specs.declared.tables.Row.{Row}
use Rattle.off_defs.specs.declared.tables.Row.TheVariants as row
use Rattle.off_defs.specs.declared.tables.Site.{Site}
use Rattle.off_defs.specs.declared.tables.Pool.{Pool}
use Rattle.off_defs.specs.State.{Tables}
use Rattle.off_defs.specs.Tables.{row_at}
use Rattle.off_dhcp.specs.Datagram.{Received}
use Rattle.off_account_rules.specs.Rows.{hub_in, pool_hub_in, hub_of, possible, as_pool, pool_fits, fitting_pool, pool_of, pools, pool_in, lease_in, has_address}
use Rattle.off_table_laws.proofs.ListLemmas.{In, made_in}
use Rattle.off_table_laws.proofs.EntryRows.{in_row}
use Rattle.off_asking.specs.Asking.{asks, claimed}
use Rattle.off_asking.specs.Choice.{serves, addresses, least_of, provided}
use Rattle.off_lease_rules.specs.Free.{numbered_pool_for, hub_for, site_for, pool_for, has_ended, is_free, least_free, choice}
use Rattle.off_lease_laws.specs.Moves.{LiesInAPool}

-- what is found is in the list, and passes the test
pub found : {A : Type 0} (p : A → Bool) (xs : List A) (x : A) → find p xs ≡ Some x → In x xs × (p x ≡ true)
found {A} p [] x e = cc
found {A} p (y ∷ ys) x e =
    elim (p y) as (λ b. p y ≡ b → cond b (Some y) (find p ys) ≡ Some x → In x (y ∷ ys) × (p x ≡ true)) [
      | true ↦ λ t f. let same : x ≡ y = cc in (inl same, ap p same ∙ t)
      | false ↦ λ t f. let rest = found p ys x f in (inr rest.0, rest.1)
    ] refl e

mapped : {A B : Type 0} (f : A → B) (o : Option A) (y : B) → option_map f o ≡ Some y → (x : A) × (o ≡ Some x) × (f x ≡ y)
mapped {A} {B} f None y e = cc
mapped {A} {B} f (Some x) y e = (x, refl, let same : f x ≡ y = cc in same)

-- a pool that is read has a row, which fits
pool_made : (q : Key) (held : Row) (n : ℕ) (pool : Pool) → pool_of (q, held) ≡ Some (n, pool) → (q ≡ key.Pool n) × (held ≡ row.Pool pool) × (pool_fits pool ≡ true)
pool_made (key.Pool k) (row.Pool other) n pool e =
    elim (pool_fits other) as (λ b. pool_fits other ≡ b → fitting_pool b k other ≡ Some (n, pool) → (key.Pool k ≡ key.Pool n) × (row.Pool other ≡ row.Pool pool) × (pool_fits pool ≡ true)) [
      | true ↦ λ t f.
          let pair : (k, other) ≡ (n, pool) = cc in
          (ap (λ (p : ℕ × Pool). key.Pool p.0) pair, ap (λ (p : ℕ × Pool). row.Pool p.1) pair, ap (λ (p : ℕ × Pool). pool_fits p.1) (sym pair) ∙ t)
      | false ↦ λ t f. cc
    ] refl e
pool_made q held n pool e = cc

pub pool_read : (t : Tables) (n : ℕ) (pool : Pool) → In (n, pool) (pools t) → pool_in t n ≡ Some pool
pool_read t n pool i =
    let m = made_in pool_of (map.entries t) (n, pool) i in
    let parts = pool_made m.0.0 m.0.1 n pool m.2 in
    let there : row_at t (key.Pool n) ≡ Some (row.Pool pool) =
    subst (λ (q : Key). row_at t q ≡ Some (row.Pool pool)) parts.0 (in_row t m.0.0 m.0.1 m.1 ∙ ap Some parts.1) in
    ap (λ o. option_and_then as_pool (possible (key.Pool n) o)) there ∙ ap (λ b. option_and_then as_pool (cond b (Some (row.Pool pool)) None)) parts.2

-- the site of a message that asks is that of its pool's hub
site_by : (t : Tables) (m : Received) (site : Site) (entry : ℕ × Pool) → numbered_pool_for t m ≡ Some entry → asks m ≡ true → site_for t m ≡ Some site
    → is_some (hub_in t (pool_hub_in t entry.0)) ≡ true
site_by t m site entry e asking is =
    let hub : hub_for t m ≡ Some (pool_hub_in t entry.0) =
    ap (λ b. cond b (option_map (λ (e : ℕ × Pool). pool_hub_in t e.0) (numbered_pool_for t m)) (option_and_then (hub_of t) (claimed m))) asking
    ∙ ap (option_map (λ (e : ℕ × Pool). pool_hub_in t e.0)) e in
    ap is_some (sym (ap (option_and_then (hub_in t)) hub) ∙ is)

-- the pool of a message is one of the tables
pub pool_there : (t : Tables) (m : Received) (pool : Pool) (site : Site) (address : Ip4) → pool_for t m ≡ Some pool → asks m ≡ true → site_for t m ≡ Some site → has_address pool address ≡ true → LiesInAPool t address
pool_there t m pool site address e asking is w =
    let entry = mapped (λ (entry : ℕ × Pool). entry.1) (find (λ (entry : ℕ × Pool). serves m entry.1) (pools t)) pool e in
    let there = pool_read t entry.0.0 entry.0.1 (found (λ (entry : ℕ × Pool). serves m entry.1) (pools t) entry.0 entry.1).0 in
    record { number = entry.0.0; pool = pool; there = there ∙ ap Some entry.2; within = w; hub_is = site_by t m site entry.0 entry.1 asking is }

-- ---- the choice

pub provided_is : {A : Type 0} (p : A → Bool) (o : Option A) (x : A) → provided p o ≡ Some x → (o ≡ Some x) × (p x ≡ true)
provided_is {A} p None x e = cc
provided_is {A} p (Some y) x e =
    elim (p y) as (λ b. p y ≡ b → cond b (Some y) None ≡ Some x → (◌≡◌ {A = Option A} (Some y) (Some x)) × (p x ≡ true)) [
      | true ↦ λ t f. let same : y ≡ x = cc in (f, ap p (sym same) ∙ t)
      | false ↦ λ t f. cc
    ] refl e

pub either : (o q : Option Ip4) (address : Ip4) → option_or o q ≡ Some address → (o ≡ Some address) ⊎ (q ≡ Some address)
either None q address e = inr e
either (Some other) q address e = inl e

pub neither : (o q : Option Ip4) → option_or o q ≡ None → (o ≡ None) × (q ≡ None)
neither None q e = (refl, e)
neither (Some other) q e = cc

pub least_found : (t : Tables) (now : ℕ) (pool : Pool) (address : Ip4) → least_free t now pool ≡ Some address → In address (addresses pool) × (is_free t now pool address ≡ true)
unfolding least_of
least_found t now pool address e = found (is_free t now pool) (addresses pool) address e

module _ (t : Tables) (now : ℕ) (pool : Pool) (held asked : Option Ip4) (address : Ip4) where
  free_choice : option_or (provided (is_free t now pool) asked) (least_free t now pool) ≡ Some address → is_free t now pool address ≡ true
  free_choice e =
      elim (either (provided (is_free t now pool) asked) (least_free t now pool) address e) as (λ c. is_free t now pool address ≡ true) [
        | inl p ↦ (provided_is (is_free t now pool) asked address p).1
        | inr p ↦ (least_found t now pool address p).1
      ]

  pub chosen_fits : choice t now pool held asked ≡ Some address → (has_address pool address ≡ true) × ((held ≡ Some address) ⊎ (is_free t now pool address ≡ true))
  chosen_fits e =
      elim (either (provided (has_address pool) held) (option_or (provided (is_free t now pool) asked) (least_free t now pool)) address e) as (λ c.
      (has_address pool address ≡ true) × ((held ≡ Some address) ⊎ (is_free t now pool address ≡ true))) [
        | inl p ↦ let own = provided_is (has_address pool) held address p in (own.1, inl own.0)
        | inr p ↦ let free = free_choice p in ((and_parts (has_address pool address) (has_ended now (lease_in t address)) free).0, inr free)
      ]
