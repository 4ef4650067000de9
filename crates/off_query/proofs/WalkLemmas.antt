-- The walk for a pool that is wanted.
use Rattle.std.proofs.Common.{◌≡◌, ℕ, ◌<◌, ◌==◌, true, false, cond, Option, Some, None, is_some, option_map, List, ◌∷◌, nat_lt, refl, sym, ap, ◌∙◌, arith}
use Rattle.std.proofs.lemmas.Bool.{ltb-true}
use Rattle.std.specs.List.{find, filter_map, cons_option}
use Rattle.std.specs.Option.{option_or}
use Rattle.std.specs.FinMap as map
use Rattle.off_base.specs.declared.addresses.Ip4.{Ip4}
use Rattle.off_defs.specs.declared.keys.Key.{Key}
use Rattle.off_defs.specs.declared.tables.Row.{Row}
use Rattle.off_defs.specs.declared.tables.Pool.{Pool}
use Rattle.off_defs.specs.State.{Tables}
use Rattle.off_defs.specs.Tables.{behind, next_entry}
use Rattle.off_rows.specs.KeyBytes.{kind_of}
use Rattle.off_account_rules.specs.Rows.{pool_of, pools, has_address, pool_hub_in, hub_of}
use Rattle.off_readers.proofs.WalkLemmas.{kinds_rise, kinds_fall}
use Rattle.off_readers.proofs.KindLemmas.{only_pools}
use Rattle.off_readers.proofs.FoldLemmas.{fold_next, fold_none, fold_begin, fold_past}
use Rattle.off_asking.specs.Choice.{provided}
use Rattle.off_query_rules.specs.Hubs.{wants, wanted_pool, wanted_hub}
use Rattle.off_query_rules.specs.declared.wanted.Wanted.{Wanted}
use Rattle.off_query_rules.specs.declared.wanted.Wanted.TheVariants.{Relay, Address}
use Rattle.off_query.specs.Walked.{wanting}

-- the hub of a pool's number is that of the pool
hub_of_number : (t : Tables) (o : Option (ℕ × Pool)) → option_map (pool_hub_in t) (option_map (λ (e : ℕ × Pool). e.0) o) ≡ option_map (λ (e : ℕ × Pool). pool_hub_in t e.0) o
hub_of_number t None = refl
hub_of_number t (Some e) = refl

pub relay_hub : (t : Tables) (relay : Ip4) → wanted_hub t (Relay relay) ≡ option_map (λ (e : ℕ × Pool). pool_hub_in t e.0) (find (λ (e : ℕ × Pool). e.1.relay.0 == relay.0) (pools t))
relay_hub t relay = hub_of_number t (find (λ (e : ℕ × Pool). e.1.relay.0 == relay.0) (pools t))

pub address_hub : (t : Tables) (address : Ip4) → wanted_hub t (Address address) ≡ hub_of t address
address_hub t address = hub_of_number t (find (λ (e : ℕ × Pool). has_address e.1 address) (pools t))

-- the pool that is wanted, of entries
abbrev found_in : Wanted → List (Key × Row) → Option ℕ
found_in w es = option_map (λ (pool : ℕ × Pool). pool.0) (find (λ (pool : ℕ × Pool). wants w pool.1) (filter_map pool_of es))

abbrev add : Wanted → Key × Row → Option ℕ → Option ℕ
add w e found = option_or (wanting w e) found

found_first : (w : Wanted) (given : Option (ℕ × Pool)) (pools : List (ℕ × Pool))
    → option_map (λ (pool : ℕ × Pool). pool.0) (find (λ (pool : ℕ × Pool). wants w pool.1) (cons_option given pools))
    ≡ option_or (option_map (λ (pool : ℕ × Pool). pool.0) (provided (λ (pool : ℕ × Pool). wants w pool.1) given))
    (option_map (λ (pool : ℕ × Pool). pool.0) (find (λ (pool : ℕ × Pool). wants w pool.1) pools))
found_first w None pools = refl
found_first w (Some x) pools =
    elim (wants w x.1) as (λ b.
    option_map (λ (pool : ℕ × Pool). pool.0) (cond b (Some x) (find (λ (pool : ℕ × Pool). wants w pool.1) pools))
    ≡ option_or (option_map (λ (pool : ℕ × Pool). pool.0) (cond b (Some x) None)) (option_map (λ (pool : ℕ × Pool). pool.0) (find (λ (pool : ℕ × Pool). wants w pool.1) pools))) [
      | true ↦ refl
      | false ↦ refl
    ]

makes : (w : Wanted) (e : Key × Row) (es : List (Key × Row)) → found_in w (e ∷ es) ≡ add w e (found_in w es)
makes w e es = found_first w (pool_of e) (filter_map pool_of es)

-- an entry of another kind isn't wanted
wants_none : (w : Wanted) (e : Key × Row) → ¬ (kind_of e.0 ≡ 6) → wanting w e ≡ None
wants_none w e other =
    ap (λ (v : Option (ℕ × Pool)). option_map (λ (pool : ℕ × Pool). pool.0) (provided (λ (pool : ℕ × Pool). wants w pool.1) v)) (only_pools.others e other)

adds_none : (w : Wanted) (e : Key × Row) (found : Option ℕ) → wanting w e ≡ None → add w e found ≡ found
adds_none w e found none = ap (λ v. option_or v found) none

adds_some : (w : Wanted) (e : Key × Row) (pool found : Option ℕ) → pool ≡ wanting w e → is_some pool ≡ true → pool ≡ add w e found
adds_some w e None found is some = cc
adds_some w e (Some pool) found is some = ap (λ v. option_or v found) is

-- no pool up to the place is wanted
abbrev pub IsLeft : Wanted → Key → Tables → Type 0
IsLeft w place t = found_in w (map.entries t) ≡ found_in w (behind (Some place) (map.entries t))

pub left_begins : (w : Wanted) (place : Key) (t : Tables) → kind_of place < 6 → IsLeft w place t
left_begins w place t lower =
    fold_begin (found_in w) (add w) (makes w) place t (λ e found before.
    let not_above = kinds_fall place e.0 before in
    adds_none w e found (wants_none w e (λ is. omega arith)))

pub left_none : (w : Wanted) (place : Key) (t : Tables) → IsLeft w place t → None ≡ next_entry (Some place) t → None ≡ wanted_pool t w
left_none w place t left next = sym (left ∙ fold_none (found_in w) (add w) (makes w) (Some place) t next)

pub left_past : (w : Wanted) (place : Key) (e : Key × Row) (t : Tables) → nat_lt 6 (kind_of e.0) ≡ true → IsLeft w place t → Some e ≡ next_entry (Some place) t → None ≡ wanted_pool t w
left_past w place e t past left next =
    let higher : 6 < kind_of e.0 = ltb-true 6 (kind_of e.0) past in
    sym (left
    ∙ fold_past (found_in w) (add w) (makes w) (Some place) e t next
    (λ found. adds_none w e found (wants_none w e (λ is. omega arith)))
    (λ other found after. let not_below = kinds_rise e.0 other.0 after in adds_none w other found (wants_none w other (λ is. omega arith))))

pub left_found : (w : Wanted) (place : Key) (e : Key × Row) (pool : Option ℕ) (t : Tables) → pool ≡ wanting w e → is_some pool ≡ true → IsLeft w place t
    → Some e ≡ next_entry (Some place) t → pool ≡ wanted_pool t w
left_found w place e pool t is some left next =
    adds_some w e pool _ is some ∙ sym (left ∙ fold_next (found_in w) (add w) (makes w) (Some place) e t next)

is_none_there : {X : Type 0} (given : Option X) → is_some given ≡ false → given ≡ None
is_none_there None none = refl
is_none_there (Some x) none = cc

pub left_on : (w : Wanted) (place : Key) (e : Key × Row) (pool : Option ℕ) (t : Tables) → pool ≡ wanting w e → is_some pool ≡ false → IsLeft w place t
    → Some e ≡ next_entry (Some place) t → IsLeft w e.0 t
left_on w place e pool t is none left next =
    left ∙ fold_next (found_in w) (add w) (makes w) (Some place) e t next ∙ adds_none w e _ (sym is ∙ is_none_there pool none)
