-- What is made of entries stays where a key is written of which nothing is made.
use Rattle.std.proofs.Common.{◌≡◌, not, cond, Option, None, List, [], ◌∷◌, refl, sym, ap, ◌∙◌}
use Rattle.std.specs.List.{filter, filter_map, cons_option}
use Rattle.std.specs.Ordering.{is_eq, eq_by_cmp}
use Rattle.std.specs.declared.cmp.Ordering.{Ordering}
use Rattle.std.specs.declared.cmp.Ordering.TheVariants.{Less, Equal, Greater}
use Rattle.std.specs.FinMap as map
use Rattle.std.specs.FinMap.Entries as list
use Rattle.off_defs.specs.declared.keys.Key.{Key}
use Rattle.off_defs.specs.declared.tables.Row.{Row}
use Rattle.off_defs.specs.Keys.{key_cmp}
use Rattle.off_defs.specs.State.{Tables}
use Rattle.off_defs.specs.Tables.{with_row, without}
use Rattle.off_defs.proofs.KeyLemmas.{key_exact}
use Rattle.off_defs.proofs.TableLemmas.{entries_with, entries_without}

module _ {K X B : Type 0} (R : K → K → Ordering) (exact : (a b : K) → R a b ≡ Equal → a ≡ b) (give : K × X → Option B) (key : K) (none : (x : X) → give (key, x) ≡ None) where
  given_none : (k : K) (x : X) → key ≡ k → give (k, x) ≡ None
  given_none k x same = sym (ap (λ l. give (l, x)) same) ∙ none x

  passed : (k : K) (x : X) (rest : List B) → key ≡ k → cons_option (give (k, x)) rest ≡ rest
  passed k x rest same = ap (λ o. cons_option o rest) (given_none k x same)

  made_put : (x : X) (es : List (K × X)) → filter_map give (list.put R key x es) ≡ filter_map give es
  made_put x [] = passed key x [] refl
  made_put x (e ∷ es) =
      elim (R key e.0) as (λ r. R key e.0 ≡ r → filter_map give (list.by_order r ((key, x) ∷ e ∷ es) ((e.0, x) ∷ es) (e ∷ list.put R key x es)) ≡ filter_map give (e ∷ es)) [
        | Less ↦ λ less. passed key x (filter_map give (e ∷ es)) refl
        | Equal ↦ λ tied. passed e.0 x (filter_map give es) (exact key e.0 tied) ∙ sym (passed e.0 e.1 (filter_map give es) (exact key e.0 tied))
        | Greater ↦ λ more. ap (cons_option (give e)) (made_put x es)
      ] refl

  made_left : (es : List (K × X)) → filter_map give (filter (λ e. not (eq_by_cmp R key e.0)) es) ≡ filter_map give es
  made_left [] = refl
  made_left (e ∷ es) =
      let left = filter (λ (e : K × X). not (eq_by_cmp R key e.0)) es in
      elim (R key e.0) as (λ r. R key e.0 ≡ r → filter_map give (cond (not (is_eq r)) (e ∷ left) left) ≡ filter_map give (e ∷ es)) [
        | Less ↦ λ less. ap (cons_option (give e)) (made_left es)
        | Equal ↦ λ tied. made_left es ∙ sym (passed e.0 e.1 (filter_map give es) (exact key e.0 tied))
        | Greater ↦ λ more. ap (cons_option (give e)) (made_left es)
      ] refl

module _ {B : Type 0} (give : Key × Row → Option B) (key : Key) (none : (held : Row) → give (key, held) ≡ None) (t : Tables) where
  pub made_with : (held : Row) → filter_map give (map.entries (with_row t key held)) ≡ filter_map give (map.entries t)
  made_with held = ap (filter_map give) (entries_with t key held) ∙ made_put key_cmp key_exact give key none held (map.entries t)

  pub made_without : filter_map give (map.entries (without t key)) ≡ filter_map give (map.entries t)
  made_without = ap (filter_map give) (entries_without t key) ∙ made_left key_cmp key_exact give key none (map.entries t)
