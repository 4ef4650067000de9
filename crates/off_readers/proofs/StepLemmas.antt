-- One step of a walk.
use Rattle.std.proofs.Common.{◌≡◌, Bool, true, false, cond, Option, Some, None, List, [], ◌∷◌, refl, sym, ap, ◌∙◌, subst, unwrap_or}
use Rattle.std.specs.List.{find}
use Rattle.std.specs.FinMap as map
use Rattle.std.specs.Ordering.{is_lt}
use Rattle.off_defs.specs.Keys.{key_cmp}
use Rattle.off_defs.specs.declared.keys.Key.{Key}
use Rattle.off_defs.specs.declared.tables.Row.{Row}
use Rattle.off_defs.specs.State.{Tables}
use Rattle.off_defs.specs.Tables.{is_after, behind, next_entry}
use Rattle.off_readers.specs.Walks.{IsAKey, IsBehind}
use Rattle.off_readers.proofs.HeightLemmas.{all_behind, one_behind}

-- what is found fits
pub find_fits : {A : Type 0} (p : A → Bool) (xs : List A) (e : A) → find p xs ≡ Some e → p e ≡ true
find_fits p [] e f = cc
find_fits p (x ∷ xs) e f =
    elim (p x) as (λ b. p x ≡ b → cond b (Some x) (find p xs) ≡ Some e → p e ≡ true) [
      | true ↦ λ is f. subst (λ v. p v ≡ true) (ap (λ v. unwrap_or v x) f) is
      | false ↦ λ is f. find_fits p xs e f
    ] refl f

-- the next entry of told tables lies behind the place
pub next_fits : (place : Option Key) (entry : Key × Row) (t : Tables) → Some entry ≡ next_entry place t → is_after place entry ≡ true
next_fits place entry t next = find_fits (is_after place) (map.entries t) entry (sym next)

pub not_next : (place : Option Key) (given : Option (Key × Row)) (entry : Key × Row) (after : Bool) (t : Tables) → given ≡ Some entry → after ≡ is_after place entry → after ≡ false
    → given ≡ next_entry place t → None ≡ next_entry place t
not_next place given entry after t is test fails next = let fits = next_fits place entry t (sym is ∙ next) in cc

pub behind_none : (place : Option Key) (entry : Key × Row) → place ≡ None → IsBehind place entry
behind_none place entry is = subst (λ (p : Option Key). IsBehind p entry) (sym is) (all_behind entry)

pub behind_key : (place : Option Key) (before : Key) (entry : Key × Row) (after : Bool) → place ≡ Some before → IsAKey before → IsAKey entry.0
    → after ≡ is_lt (key_cmp before entry.0) → after ≡ true → IsBehind place entry
behind_key place before entry after is p q test holds = subst (λ (v : Option Key). IsBehind v entry) (sym is) (one_behind before entry p q (sym test ∙ holds))

-- all entries lie behind the first place
pub all_left : (es : List (Key × Row)) → behind None es ≡ es
all_left [] = refl
all_left (e ∷ es) = ap (λ (v : List (Key × Row)). e ∷ v) (all_left es)
