-- The first cell behind a place, among cells in order.
use Rattle.std.proofs.Common.{◌≡◌, ℕ, Bool, true, false, cond, T, List, [], ◌∷◌, Some, None, refl, sym, ap, subst, ◌∙◌, inl, inr}
use Rattle.std.specs.List.{find as first_of_all}
use Rattle.std.specs.Ordering.{is_lt, is_eq, eq_by_cmp, ordering_reverse}
use Rattle.std.specs.Cmp.Lexicographic.{nat_list_cmp_total}
use Rattle.std.specs.declared.cmp.Ordering.{Ordering}
use Rattle.std.specs.declared.cmp.Ordering.TheVariants.{Less, Equal, Greater}
use Rattle.std.specs.FinMap as map
use Rattle.std.specs.FinMap.Entries.{below_all}
use Rattle.std.proofs.lemmas.Bool.{true≢false, false_from_ne_true}
use Rattle.sqlite_rules.specs.Lists.{Has}
use Rattle.off_defs.proofs.EntryLemmas.{is_less, holds, first, second}
use Rattle.off_cells.specs.CellsSeen.{CellMap}
use Rattle.off_cells.proofs.SortedLemmas.{bytes_cmp, same_key}
use Rattle.off_sqlcells.proofs.RowLemmas.{own_key}

abbrev Entry : Type 0
Entry = List ℕ × List ℕ

below_has : (k : List ℕ) (es : List Entry) (e : Entry) → T (below_all bytes_cmp k es) → Has es e → bytes_cmp k e.0 ≡ Less
below_has k [] e h i = absurd i
below_has k (x ∷ es) e h (inl same) = is_less (bytes_cmp k e.0) (holds _ (subst (λ (z : Entry). T (is_lt (bytes_cmp k z.0))) (sym same) (first _ _ h)))
below_has k (x ∷ es) e h (inr later) = below_has k es e (second _ _ h) later

-- the first that passes, where it is the least that passes
pub first_is : (p : Entry → Bool) (es : List Entry) (e : Entry) → T (map.is_sorted bytes_cmp es) → Has es e → p e ≡ true
    → ((c : Entry) → Has es c → p c ≡ true → is_lt (bytes_cmp c.0 e.0) ≡ false) → first_of_all p es ≡ Some e
first_is p [] e up h passes least = absurd h
first_is p (x ∷ es) e up (inl same) passes least = ap (λ b. cond b (Some x) (first_of_all p es)) (ap p (sym same) ∙ passes) ∙ ap Some (sym same)
first_is p (x ∷ es) e up (inr later) passes least =
    let low = below_has x.0 es e (first _ _ up) later in
    let fails : p x ≡ false = false_from_ne_true _ (λ t. true≢false (sym (ap is_lt low) ∙ least x (inl refl) t)) in
    ap (λ b. cond b (Some x) (first_of_all p es)) fails ∙ first_is p es e (second _ _ up) later passes (λ c h t. least c (inr h) t)

pub none_is : (p : Entry → Bool) (es : List Entry) → ((c : Entry) → Has es c → p c ≡ false) → first_of_all p es ≡ None
none_is p [] each = refl
none_is p (x ∷ es) each = ap (λ b. cond b (Some x) (first_of_all p es)) (each x (inl refl)) ∙ none_is p es (λ c h. each c (inr h))

-- ---- entries and values

found_has : (q v : List ℕ) (es : List Entry) → map.find bytes_cmp q es ≡ Some v → Has es (q, v)
found_has q v [] h = cc
found_has q v (e ∷ es) h =
    elim (eq_by_cmp bytes_cmp q e.0) as (λ b. eq_by_cmp bytes_cmp q e.0 ≡ b → cond b (Some e.1) (map.find bytes_cmp q es) ≡ Some v → Has (e ∷ es) (q, v)) [
      | true ↦ λ t g. let key = same_key q e.0 t in let val : e.1 ≡ v = cc in inl (λ i. (key i, sym val i))
      | false ↦ λ t g. inr (found_has q v es g)
    ] refl h

turned_less : (o : Ordering) → o ≡ Less → is_eq (ordering_reverse o) ≡ false
turned_less Less e = refl
turned_less Equal e = cc
turned_less Greater e = refl

has_found : (es : List Entry) (e : Entry) → T (map.is_sorted bytes_cmp es) → Has es e → map.find bytes_cmp e.0 es ≡ Some e.1
has_found [] e up h = absurd h
has_found (x ∷ es) e up (inl same) =
    ap (λ b. cond b (Some x.1) (map.find bytes_cmp e.0 es)) (ap (λ (z : Entry). eq_by_cmp bytes_cmp e.0 z.0) (sym same) ∙ own_key e.0) ∙ ap (λ (z : Entry). Some z.1) (sym same)
has_found (x ∷ es) e up (inr later) =
    let low = below_has x.0 es e (first _ _ up) later in
    let apart : eq_by_cmp bytes_cmp e.0 x.0 ≡ false = ap is_eq (nat_list_cmp_total.antisymm e.0 x.0) ∙ turned_less (bytes_cmp x.0 e.0) low in
    ap (λ b. cond b (Some x.1) (map.find bytes_cmp e.0 es)) apart ∙ has_found es e (second _ _ up) later

pub entry_has : (m : CellMap) (q v : List ℕ) → map.get m q ≡ Some v → Has (map.entries m) (q, v)
entry_has m q v h = found_has q v (map.entries m) (sym (map.get-entries m q) ∙ h)

pub entry_got : (m : CellMap) (e : Entry) → Has (map.entries m) e → map.get m e.0 ≡ Some e.1
entry_got m e h = map.get-entries m e.0 ∙ has_found (map.entries m) e (map.entries_sorted m) h
