-- Entries of a map of which each is changed or dropped by itself: they stay in order, and each key has
-- what its own entry became. For any keys, values and order.
use Rattle.std.proofs.Common.{◌≡◌, Bool, true, false, cond, T, List, [], ◌∷◌, ◌++◌, Option, Some, None, option_and_then, refl, sym, ap, ◌∙◌}
use Rattle.std.specs.List.{flat_map}
use Rattle.std.specs.Cmp.{IsTotalOrder}
use Rattle.std.specs.Ordering.{is_lt, eq_by_cmp}
use Rattle.std.specs.declared.cmp.Ordering.{Ordering}
use Rattle.std.specs.declared.cmp.Ordering.TheVariants.{Equal}
use Rattle.std.specs.FinMap.Entries.{find, below_all, is_sorted}
use Rattle.off_defs.proofs.EntryLemmas.{is_equal, first, second, both}
use Rattle.off_defs.proofs.PlaceLemmas.{none_above}

abbrev pub left_at : {K X : Type 0} → K → Option X → List (K × X)
left_at key None = []
left_at key (Some x) = (key, x) ∷ []

abbrev pub left_of : {K X : Type 0} → (X → Option X) → K × X → List (K × X)
left_of f entry = left_at entry.0 (f entry.1)

module _ {K X : Type 0} (R : K → K → Ordering) (f : X → Option X) where
  below_left : (key : K) (e : K × X) (o : Option X) (es : List (K × X)) → T (is_lt (R key e.0)) → T (below_all R key es) → T (below_all R key (left_at e.0 o ++ es))
  below_left key e None es p q = q
  below_left key e (Some x) es p q = both _ _ p q

  below_kept : (key : K) (es : List (K × X)) → T (below_all R key es) → T (below_all R key (flat_map (left_of f) es))
  below_kept key [] h = tt
  below_kept key (e ∷ es) h =
      below_left key e (f e.1) (flat_map (left_of f) es) (first _ _ h)
      (below_kept key es (second _ _ h))

  sorted_left : (e : K × X) (o : Option X) (es : List (K × X)) → T (below_all R e.0 es) → T (is_sorted R es) → T (is_sorted R (left_at e.0 o ++ es))
  sorted_left e None es p q = q
  sorted_left e (Some x) es p q = both _ _ p q

  pub sorted_kept : (es : List (K × X)) → T (is_sorted R es) → T (is_sorted R (flat_map (left_of f) es))
  sorted_kept [] h = tt
  sorted_kept (e ∷ es) h =
      sorted_left e (f e.1) (flat_map (left_of f) es) (below_kept e.0 es (first _ _ h))
      (sorted_kept es (second _ _ h))

  module _ (total : IsTotalOrder R) where
    found_left : (q : K) (e : K × X) (o : Option X) (es kept : List (K × X)) (same : Bool) → eq_by_cmp R q e.0 ≡ same → f e.1 ≡ o
        → T (below_all R e.0 es) → find R q kept ≡ option_and_then f (find R q es)
        → find R q (left_at e.0 o ++ kept) ≡ option_and_then f (cond same (Some e.1) (find R q es))
    found_left q e None es kept true t o h found =
        found ∙ ap (option_and_then f) (none_above R q total e.0 Equal (is_equal (R q e.0) t) refl es h) ∙ sym o
    found_left q e None es kept false t o h found = found
    found_left q e (Some x) es kept true t o h found = ap (λ b. cond b (Some x) (find R q kept)) t ∙ sym o
    found_left q e (Some x) es kept false t o h found = ap (λ b. cond b (Some x) (find R q kept)) t ∙ found

    pub found_kept : (q : K) (es : List (K × X)) → T (is_sorted R es) → find R q (flat_map (left_of f) es) ≡ option_and_then f (find R q es)
    found_kept q [] h = refl
    found_kept q (e ∷ es) h =
        found_left q e (f e.1) es (flat_map (left_of f) es) (eq_by_cmp R q e.0) refl refl (first _ _ h)
        (found_kept q es (second _ _ h))
