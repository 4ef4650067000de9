-- The walk over the pools for the least that has a hub, with a look at the hub of each.
use Rattle.std.proofs.Common.{◌≡◌, ℕ, ◌+◌, ◌*◌, ◌<◌, ◌≤◌, ◌==◌, true, false, cond, Option, Some, None, is_some, option_map, List, ◌∷◌, refl, sym, ap, ◌∙◌, arith}
use Rattle.std.specs.Prelude.{nat_lt}
use Rattle.std.proofs.lemmas.Bool.{ltb-true}
use Rattle.std.specs.Option.{option_or}
use Rattle.std.specs.List.{find, filter_map, cons_option}
use Rattle.std.specs.FinMap as map
use Rattle.off_defs.specs.declared.keys.Key.{Key}
use Rattle.off_defs.specs.declared.tables.Row.{Row}
use Rattle.off_defs.specs.declared.tables.Pool.{Pool}
use Rattle.off_orders.specs.declared.rules.Rule.TheVariants as rule
use Rattle.off_defs.specs.Kinds.{kind_of}
use Rattle.off_defs.specs.State.{Tables}
use Rattle.off_defs.specs.Tables.{behind, next_entry}
use Rattle.off_account_rules.specs.Rows.{pool_of, pools, pool_hub_in}
use Rattle.off_orders.specs.Clerk.{hub_in_use}
use Rattle.off_outside.specs.KeeperSeen.{KeeperSeen}
use Rattle.off_outside.specs.KeeperCalls.{Reads, Spent, WasCounted}
use Rattle.off_outside.proofs.KeeperLemmas.{reads_then, spent_one}
use Rattle.off_readers.proofs.FoldLemmas.{fold_begin, fold_none, fold_past, fold_next}
use Rattle.off_readers.proofs.WalkLemmas.{kinds_rise, kinds_fall}
use Rattle.off_readers.proofs.KindLemmas.{only_pools}
use Rattle.off_accounts.specs.Searches.{is_pool_of, least_of, of_hub_in, hub_rule}
use Rattle.off_accounts.specs.Walking.{is_of_pool, rows_at, hub_calls}
use Rattle.off_accounts.proofs.WalkedLemmas.{left_at, one_left, few_left}

abbrev number_of : Option (ℕ × Pool) → Option ℕ
number_of given = option_map (λ (pool : ℕ × Pool). pool.0) given

-- what is found says the rule
rule_of : (found : Option (ℕ × Pool)) → hub_rule (number_of found) ≡ option_map (λ (entry : ℕ × Pool). rule.HubInUse entry.0) found
rule_of None = refl
rule_of (Some entry) = refl

pub hub_found : (hub : ℕ) (found : Option ℕ) (t : Tables) → found ≡ least_of t hub → hub_rule found ≡ hub_in_use t hub
hub_found hub found t is = ap hub_rule is ∙ rule_of (find (is_pool_of t hub) (pools t))

-- ---- what is left to be looked at

abbrev sought_at : Tables → ℕ → Key × Row → Option ℕ
sought_at t hub e = of_hub_in t hub (number_of (pool_of e))

abbrev among : Tables → ℕ → List (Key × Row) → Option ℕ
among t hub es = number_of (find (is_pool_of t hub) (filter_map pool_of es))

abbrev add_pool : Tables → ℕ → Key × Row → Option ℕ → Option ℕ
add_pool t hub e found = option_or (sought_at t hub e) found

first : (t : Tables) (hub : ℕ) (given : Option (ℕ × Pool)) (pools : List (ℕ × Pool))
    → number_of (find (is_pool_of t hub) (cons_option given pools)) ≡ option_or (of_hub_in t hub (number_of given)) (number_of (find (is_pool_of t hub) pools))
first t hub None pools = refl
first t hub (Some x) pools =
    elim (pool_hub_in t x.0 == hub) as (λ b. number_of (cond b (Some x) (find (is_pool_of t hub) pools)) ≡ option_or (cond b (Some x.0) None) (number_of (find (is_pool_of t hub) pools))) [
      | true ↦ refl
      | false ↦ refl
    ]

makes : (t : Tables) (hub : ℕ) (e : Key × Row) (es : List (Key × Row)) → among t hub (e ∷ es) ≡ add_pool t hub e (among t hub es)
makes t hub e es = first t hub (pool_of e) (filter_map pool_of es)

other_none : (t : Tables) (hub : ℕ) (e : Key × Row) → ¬ (kind_of e.0 ≡ 6) → sought_at t hub e ≡ None
other_none t hub e other = ap (λ (v : Option (ℕ × Pool)). of_hub_in t hub (number_of v)) (only_pools.others e other)

adds_none : (t : Tables) (hub : ℕ) (e : Key × Row) (found : Option ℕ) → sought_at t hub e ≡ None → add_pool t hub e found ≡ found
adds_none t hub e found none = ap (λ v. option_or v found) none

adds_some : (t : Tables) (hub : ℕ) (e : Key × Row) (given found : Option ℕ) → given ≡ sought_at t hub e → is_some given ≡ true → given ≡ add_pool t hub e found
adds_some t hub e None found is some = cc
adds_some t hub e (Some n) found is some = ap (λ v. option_or v found) is

-- no pool up to the place has the hub
abbrev pub IsLeft : ℕ → Key → Tables → Type 0
IsLeft hub place t = among t hub (map.entries t) ≡ among t hub (behind (Some place) (map.entries t))

none_there : (given : Option ℕ) → is_some given ≡ false → given ≡ None
none_there None none = refl
none_there (Some x) none = cc

module _ (hub : ℕ) where
  pub seek_begins : (place : Key) (t : Tables) → kind_of place < 6 → IsLeft hub place t
  seek_begins place t lower =
      fold_begin (among t hub) (add_pool t hub) (makes t hub) place t (λ e found before.
      let not_above = kinds_fall place e.0 before in
      adds_none t hub e found (other_none t hub e (λ is. omega arith)))

  pub seek_none : (place : Key) (t : Tables) → IsLeft hub place t → None ≡ next_entry (Some place) t → None ≡ least_of t hub
  seek_none place t left next = sym (left ∙ fold_none (among t hub) (add_pool t hub) (makes t hub) (Some place) t next)

  pub seek_past : (place : Key) (e : Key × Row) (t : Tables) → nat_lt 6 (kind_of e.0) ≡ true → IsLeft hub place t → Some e ≡ next_entry (Some place) t → None ≡ least_of t hub
  seek_past place e t past left next =
      let higher : 6 < kind_of e.0 = ltb-true 6 (kind_of e.0) past in
      sym (left
      ∙ fold_past (among t hub) (add_pool t hub) (makes t hub) (Some place) e t next
      (λ found. adds_none t hub e found (other_none t hub e (λ is. omega arith)))
      (λ other found after. let not_below = kinds_rise e.0 other.0 after in adds_none t hub other found (other_none t hub other (λ is. omega arith))))

  -- the entry behind the place, and whether the hub is its own
  module _ {a b c d : KeeperSeen} (place : Key) (e : Key × Row) (number given : Option ℕ) (is : number ≡ number_of (pool_of e)) (left : Reads (IsLeft hub place) a b)
      (next : Reads (λ t. Some e ≡ next_entry (Some place) t) b c) (looked : Reads (λ t. given ≡ of_hub_in t hub number) c d) where
    both : Reads (λ t. IsLeft hub place t × (Some e ≡ next_entry (Some place) t)) a c
    both = reads_then left next (λ t p q. (p, q))

    at_entry : (t : Tables) → given ≡ of_hub_in t hub number → given ≡ sought_at t hub e
    at_entry t looks = looks ∙ ap (of_hub_in t hub) is

    pub seek_found : is_some given ≡ true → Reads (λ t. given ≡ least_of t hub) a d
    seek_found some = reads_then both looked (λ t so looks.
        adds_some t hub e given _ (at_entry t looks) some ∙ sym (so.0 ∙ fold_next (among t hub) (add_pool t hub) (makes t hub) (Some place) e t so.1))

    pub seek_on : is_some given ≡ false → Reads (IsLeft hub e.0) a d
    seek_on none = reads_then both looked (λ t so looks.
        so.0 ∙ fold_next (among t hub) (add_pool t hub) (makes t hub) (Some place) e t so.1 ∙ adds_none t hub e _ (sym (at_entry t looks) ∙ none_there given none))

-- ---- how many calls that takes

-- so many calls were made that with two for each pool that is left there are no more than two for each pool
abbrev pub WalkedHubs : Key → KeeperSeen → KeeperSeen → Type 0
WalkedHubs place a b = (t : Tables) → a.tables t → (a.calls ≤ b.calls) × (b.calls + 2 * left_at is_of_pool place t ≤ a.calls + 2 * rows_at is_of_pool t)

pub hub_walk_begins : (place : Key) (a : KeeperSeen) → WalkedHubs place a a
hub_walk_begins place a t told = (omega arith, let less = few_left is_of_pool place t in omega (arith, less))

-- the walk ends where it finds no pool any more
pub hub_walk_ends : (place : Key) {a b c : KeeperSeen} → WalkedHubs place a b → WasCounted b c → (t : Tables) → a.tables t → Spent (hub_calls t) a c
hub_walk_ends place so_far counted t told =
    let before = so_far t told in
    let one = spent_one counted in
    record { later = omega (arith, before.0, one.later); most = omega (arith, before.1, one.most) }

-- or at a pool, whose hub was looked up
module _ (place : Key) (e : Key × Row) {P : Tables → Type 0} {a b c d : KeeperSeen} (here : is_of_pool e.0 ≡ true) (so_far : WalkedHubs place a b) (reads : Reads P a b)
    (next : Reads (λ t. Some e ≡ next_entry (Some place) t) b c) (counted : WasCounted b c) (spent : Spent 1 c d) where
  two_more : (t : Tables) → a.tables t → (a.calls ≤ d.calls) × (d.calls + 2 * left_at is_of_pool e.0 t ≤ a.calls + 2 * rows_at is_of_pool t)
  two_more t told =
      let before = so_far t told in
      let one = spent_one counted in
      let at = (next.tables t (reads.tables t told).0).1 in
      let left = one_left is_of_pool place e t here at in
      (omega (arith, before.0, one.later, spent.later), omega (arith, before.1, one.most, spent.most, left))

  pub hub_walk_goes_on : WalkedHubs e.0 a d
  hub_walk_goes_on t told = two_more t told

  pub hub_walk_stops : (t : Tables) → a.tables t → Spent (hub_calls t) a d
  hub_walk_stops t told = let all = two_more t told in record { later = all.0; most = omega (arith, all.1) }
