-- A search for the least key that is wanted.
use Rattle.std.proofs.Common.{◌≡◌, ℕ, true, false, cond, Option, Some, None, refl, sym, ap, subst, ◌∙◌}
use Rattle.std.specs.List.{find}
use Rattle.std.specs.FinMap as map
use Rattle.off_base.specs.declared.moments.Moment.{Moment}
use Rattle.off_defs.specs.declared.keys.Key.{Key}
use Rattle.off_defs.specs.declared.tables.Row.{Row}
use Rattle.off_defs.specs.declared.tables.Pool.{Pool}
use Rattle.off_defs.specs.State.{Tables}
use Rattle.off_defs.specs.Tables.{is_after, behind, next_entry}
use Rattle.off_orders.specs.Clerk.{is_other_with_relay}
use Rattle.off_accounts.specs.declared.whose.Whose.{Whose}
use Rattle.off_accounts.specs.declared.lost.Lost.{Lost}
use Rattle.off_accounts.specs.declared.searching.Sought.{Sought}
use Rattle.off_accounts.specs.declared.searching.Sought.TheVariants.{Overlapping, WithRelay, LiveLost}
use Rattle.off_accounts.specs.Searches.{before_pools, is_overlapping, is_given_up, is_wanted, least_wanted}
use Rattle.off_accounts.specs.Walking.{AllBehind, is_reached, is_passed, is_past_first}
use Rattle.off_readers.proofs.FoldLemmas.{fold_next, fold_none, fold_begin, fold_past}
use Rattle.off_accounts.proofs.LostLemmas.{pools_before, pools_here, pools_later, pools_begin_at, not_live, none_here, none_later}
use Rattle.off_accounts.proofs.FoundLemmas.{key_found}

-- what is wanted of all entries is what is wanted of those behind the place
abbrev pub IsLeft : Sought → Key → Tables → Type 0
IsLeft sought place t = find (is_wanted sought) (map.entries t) ≡ find (is_wanted sought) (behind (Some place) (map.entries t))

abbrev add_found : Sought → Key × Row → Option (Key × Row) → Option (Key × Row)
add_found sought e found = cond (is_wanted sought e) (Some e) found

found_here : (sought : Sought) (e : Key × Row) (found : Option (Key × Row)) → is_wanted sought e ≡ true → add_found sought e found ≡ Some e
found_here sought e found is = ap (λ b. cond b (Some e) found) is

not_here : (sought : Sought) (e : Key × Row) (found : Option (Key × Row)) → is_wanted sought e ≡ false → add_found sought e found ≡ found
not_here sought e found is = ap (λ b. cond b (Some e) found) is

module _ (sought : Sought) where
  pub search_begin : (place : Key) (t : Tables) → ((e : Key × Row) → is_after (Some place) e ≡ false → is_wanted sought e ≡ false) → IsLeft sought place t
  search_begin place t none = fold_begin (find (is_wanted sought)) (add_found sought) (λ e es. refl) place t (λ e a before. not_here sought e a (none e before))

  pub search_none : (place : Key) (t : Tables) → IsLeft sought place t → None ≡ next_entry (Some place) t → None ≡ least_wanted sought t
  search_none place t left next = sym (ap key_found (left ∙ fold_none (find (is_wanted sought)) (add_found sought) (λ e es. refl) (Some place) t next))

  pub search_past : (place : Key) (e : Key × Row) (t : Tables) → IsLeft sought place t → Some e ≡ next_entry (Some place) t → is_wanted sought e ≡ false
      → ((other : Key × Row) → is_after (Some e.0) other ≡ true → is_wanted sought other ≡ false) → None ≡ least_wanted sought t
  search_past place e t left next here later =
      sym (ap key_found
      (left ∙ fold_past (find (is_wanted sought)) (add_found sought) (λ e es. refl) (Some place) e t next (λ a. not_here sought e a here) (λ other a after. not_here sought other a (later other after))))

  pub search_found : (place : Key) (e : Key × Row) (t : Tables) → IsLeft sought place t → Some e ≡ next_entry (Some place) t → is_wanted sought e ≡ true → Some e.0 ≡ least_wanted sought t
  search_found place e t left next here =
      sym (ap key_found (left ∙ fold_next (find (is_wanted sought)) (add_found sought) (λ e es. refl) (Some place) e t next ∙ found_here sought e _ here))

  pub search_on : (place : Key) (e : Key × Row) (t : Tables) → IsLeft sought place t → Some e ≡ next_entry (Some place) t → is_wanted sought e ≡ false → IsLeft sought e.0 t
  search_on place e t left next here = left ∙ fold_next (find (is_wanted sought)) (add_found sought) (λ e es. refl) (Some place) e t next ∙ not_here sought e _ here

-- ---- where the search begins, and where it ends

module _ (sought : Sought) (place : Key) where
  -- nothing is wanted up to the place
  abbrev pub NoneBefore : Type 0
  NoneBefore = (e : Key × Row) → is_after (Some place) e ≡ false → is_wanted sought e ≡ false

  pub overlap_before : (whose : Whose) (own : Option ℕ) (pool : Pool) → sought ≡ Overlapping whose own pool → place ≡ before_pools whose → NoneBefore
  overlap_before whose own pool is at e before = ap (λ (s : Sought). is_wanted s e) is ∙ pools_before whose (is_overlapping own pool) place at e before

  pub relay_before : (whose : Whose) (n : ℕ) (pool : Pool) → sought ≡ WithRelay whose n pool → place ≡ before_pools whose → NoneBefore
  relay_before whose n pool is at e before = ap (λ (s : Sought). is_wanted s e) is ∙ pools_before whose (is_other_with_relay n pool) place at e before

  pub lost_before : (now : Moment) (lost : Lost) → sought ≡ LiveLost now lost → ((e : Key × Row) → is_after (Some place) e ≡ false → is_given_up lost e.0 ≡ false) → NoneBefore
  lost_before now lost is none e before = ap (λ (s : Sought). is_wanted s e) is ∙ not_live lost e lost.whose now.0 (none e before)

  pub overlap_begins : (whose : Whose) (own : Option ℕ) (pool : Pool) → sought ≡ Overlapping whose own pool → place ≡ before_pools whose → AllBehind (is_reached sought) place
  overlap_begins whose own pool is at = subst (λ (s : Sought). AllBehind (is_reached s) place) (sym is) (pools_begin_at whose place at)

  pub relay_begins : (whose : Whose) (n : ℕ) (pool : Pool) → sought ≡ WithRelay whose n pool → place ≡ before_pools whose → AllBehind (is_reached sought) place
  relay_begins whose n pool is at = subst (λ (s : Sought). AllBehind (is_reached s) place) (sym is) (pools_begin_at whose place at)

  pub lost_begins : (now : Moment) (lost : Lost) → sought ≡ LiveLost now lost → AllBehind (is_past_first lost) place → AllBehind (is_reached sought) place
  lost_begins now lost is begins = subst (λ (s : Sought). AllBehind (is_reached s) place) (sym is) begins

-- behind a key that is passed nothing is wanted
pub none_at : (sought : Sought) (k : Key) (row : Row) → is_passed sought k ≡ true → is_wanted sought (k, row) ≡ false
none_at (Overlapping whose own pool) k row past = pools_here whose (is_overlapping own pool) (k, row) past
none_at (WithRelay whose n pool) k row past = pools_here whose (is_other_with_relay n pool) (k, row) past
none_at (LiveLost now lost) k row past = not_live lost (k, row) lost.whose now.0 (none_here lost k past)

pub none_behind : (sought : Sought) (k : Key) (e : Key × Row) → is_passed sought k ≡ true → is_after (Some k) e ≡ true → is_wanted sought e ≡ false
none_behind (Overlapping whose own pool) k e past after = pools_later whose (is_overlapping own pool) k past e after
none_behind (WithRelay whose n pool) k e past after = pools_later whose (is_other_with_relay n pool) k past e after
none_behind (LiveLost now lost) k e past after = not_live lost e lost.whose now.0 (none_later lost k past e after)
