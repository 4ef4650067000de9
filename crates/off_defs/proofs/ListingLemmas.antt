-- Entries of one kind as a list stand in the order of their own keys.
use Rattle.std.proofs.Common.{◌≡◌, Option, Some, None, List, [], ◌∷◌, refl, subst}
use lib.Dec.{T}
use Rattle.std.specs.Ordering.{is_lt}
use Rattle.std.specs.List.{filter_map, cons_option}
use Rattle.std.specs.declared.cmp.Ordering.{Ordering}
use Rattle.std.specs.FinMap.Entries as list
use Rattle.off_defs.proofs.EntryLemmas.{first, second, both}

module _ {K X N Y : Type 0} (R : K → K → Ordering) (give : K × X → Option (N × Y)) (key_of : N → K) (named : (e : K × X) (n : N) (y : Y) → give e ≡ Some (n, y) → e.0 ≡ key_of n) where
  abbrev by_key : N → N → Ordering
  by_key m n = R (key_of m) (key_of n)

  listed_below : (n : N) (es : List (K × X)) → T (list.below_all R (key_of n) es) → T (list.below_all by_key n (filter_map give es))
  listed_below n [] h = tt
  listed_below n (e ∷ es) h =
      let after = listed_below n es (second _ _ h) in
      elim (give e) as (λ g. give e ≡ g → T (list.below_all by_key n (cons_option g (filter_map give es)))) [
        | None ↦ λ f. after
        | Some z ↦ λ f. both (is_lt (by_key n z.0)) (list.below_all by_key n (filter_map give es)) (subst (λ (k : K). T (is_lt (R (key_of n) k))) (named e z.0 z.1 f) (first _ _ h)) after
      ] refl

  pub listed_sorted : (es : List (K × X)) → T (list.is_sorted R es) → T (list.is_sorted by_key (filter_map give es))
  listed_sorted [] h = tt
  listed_sorted (e ∷ es) h =
      let after = listed_sorted es (second _ _ h) in
      elim (give e) as (λ g. give e ≡ g → T (list.is_sorted by_key (cons_option g (filter_map give es)))) [
        | None ↦ λ f. after
        | Some z ↦ λ f.
            both (list.below_all by_key z.0 (filter_map give es)) (list.is_sorted by_key (filter_map give es))
            (listed_below z.0 es (subst (λ (k : K). T (list.below_all R k es)) (named e z.0 z.1 f) (first _ _ h))) after
      ] refl
