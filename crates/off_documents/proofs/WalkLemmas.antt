-- What a walk over the members of an object has found at a name.
use Rattle.std.proofs.Common.{◌≡◌, ℕ, Bool, true, false, cond, bytes_eq, List, Option, Some, None, refl, sym, ap, subst, ◌∙◌}
use Rattle.std.proofs.lemmas.Slice.Eq.{bytes_eq-Decides}
use Rattle.json.specs.Token.{Token}
use Rattle.json.specs.Json.{Json, null, boolean, number, string, array, object, Members, no_members, member}
use Rattle.json.specs.Find.{BeginsWith, Finds, later_or, get_member, get, as_object}

-- this was found at a name among the members before the rest
abbrev pub Kept : Option (List Token) → List ℕ → Members → Json → Type 0
Kept found name rest j = (earlier : Option Json) × Finds found earlier × (get name j ≡ later_or (get_member name rest) earlier)

or_none : (o : Option Json) → o ≡ later_or o None
or_none None = refl
or_none (Some j) = refl

newer : (o : Option Json) (j : Json) (p : Option Json) → later_or (later_or o (Some j)) p ≡ later_or o (Some j)
newer None j p = refl
newer (Some k) j p = refl

pub at_first : (name : List ℕ) (ms : Members) (j : Json) → j ≡ object ms → Kept None name ms j
at_first name ms j is = (None, refl, ap (get name) is ∙ or_none _)

pub at_last : (found : Option (List Token)) (name : List ℕ) (rest : Members) (j : Json) → rest ≡ no_members → Kept found name rest j → Finds found (get name j)
at_last found name rest j none kept = subst (Finds found) (sym (kept.2 ∙ ap (λ ms. later_or (get_member name ms) kept.0) none)) kept.1

module _ (name k : List ℕ) (i : Json) (more rest : Members) (j : Json) (is : rest ≡ member k i more) where
  turn : (earlier : Option Json) (b : Bool) → bytes_eq k name ≡ b → get name j ≡ later_or (get_member name rest) earlier
      → get name j ≡ later_or (later_or (get_member name more) (cond b (Some i) None)) earlier
  turn earlier b e h =
      h ∙ ap (λ ms. later_or (get_member name ms) earlier) is ∙ ap (λ (t : Bool). later_or (later_or (get_member name more) (cond t (Some i) None)) earlier) e

  pub passed_over : (found : Option (List Token)) → bytes_eq k name ≡ false → Kept found name rest j → Kept found name more j
  passed_over found e kept = (kept.0, kept.1, turn kept.0 false e kept.2 ∙ ap (λ o. later_or o kept.0) (sym (or_none _)))

  pub taken : (found : Option (List Token)) (ts : List Token) → bytes_eq k name ≡ true → BeginsWith ts i → Kept found name rest j → Kept (Some ts) name more j
  taken found ts e begins kept = (Some i, (i, refl, begins), turn kept.0 true e kept.2 ∙ newer (get_member name more) i kept.0)

pub another : (k one two : List ℕ) → bytes_eq k one ≡ true → bytes_eq one two ≡ false → bytes_eq k two ≡ false
another k one two same other = ap (λ (n : List ℕ). bytes_eq n two) ((bytes_eq-Decides k one).0 same) ∙ other

pub nothing_in : (name : List ℕ) (j : Json) → as_object j ≡ None → get name j ≡ None
nothing_in name null e = refl
nothing_in name (boolean b) e = refl
nothing_in name (number s) e = refl
nothing_in name (string s) e = refl
nothing_in name (array js) e = refl
nothing_in name (object ms) e = absurd (cc)
