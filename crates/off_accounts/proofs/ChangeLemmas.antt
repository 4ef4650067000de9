-- How one write changes the counts of rows.
use Rattle.std.proofs.Common.{◌≡◌, ℕ, ◌+◌, Bool, cond, not, ◌&&◌, Option, Some, None, List, [], ◌∷◌, count_by, refl, sym, ap, subst, arith}
use Rattle.std.proofs.lemmas.List.Sums.{sum_by-cons}
use lib.Dec.{T}
use Rattle.std.specs.List.{filter}
use Rattle.std.specs.Ordering.{is_lt, is_eq, eq_by_cmp}
use Rattle.std.specs.Cmp.{IsTotalOrder}
use Rattle.std.specs.declared.cmp.Ordering.{Ordering}
use Rattle.std.specs.declared.cmp.Ordering.TheVariants.{Less, Equal, Greater}
use Rattle.std.specs.FinMap.Entries as list
use Rattle.off_defs.proofs.EntryLemmas.{is_less, holds, first, second, none_below}

module _ {K X : Type 0} (R : K → K → Ordering) (p : K × X → Bool) where
  abbrev pub counts_it : K × X → ℕ
  counts_it e = cond (p e) 1 0

  -- whether a row of the key counts, as a number
  abbrev pub counted_at : K → Option X → ℕ
  counted_at key None = 0
  counted_at key (Some x) = counts_it (key, x)

  count_first : (e : K × X) (es : List (K × X)) → count_by p (e ∷ es) ≡ counts_it e + count_by p es
  count_first e es = sum_by-cons counts_it e es

  module _ (o : IsTotalOrder R) (exact : (a b : K) → R a b ≡ Equal → a ≡ b) where
    below_less : (x y : K) (es : List (K × X)) → R x y ≡ Less → T (list.below_all R y es) → T (list.below_all R x es)
    below_less x y [] p h = tt
    below_less x y (e ∷ es) p h =
        let one : T (list.below_all R x es) = below_less x y es p (second _ _ h) in
        subst (λ r. T (is_lt r && list.below_all R x es)) (sym (o.trans x y e.0 p (is_less _ (holds _ (first _ _ h))))) one

    pub count-put : (key : K) (x : X) (es : List (K × X)) → T (list.is_sorted R es)
        → count_by p (list.put R key x es) + counted_at key (list.find R key es) ≡ count_by p es + counts_it (key, x)
    count-put key x [] h = omega arith
    count-put key x (e ∷ es) h =
        elim (R key e.0) as (λ r. R key e.0 ≡ r
        → count_by p (list.by_order r ((key, x) ∷ e ∷ es) ((e.0, x) ∷ es) (e ∷ list.put R key x es)) + counted_at key (cond (is_eq r) (Some e.1) (list.find R key es))
        ≡ count_by p (e ∷ es) + counts_it (key, x)) [
          | Less ↦ λ less.
              let none : list.find R key es ≡ None = none_below R key es (below_less key e.0 es less (first _ _ h)) in
              let n : counted_at key (list.find R key es) ≡ 0 = ap (counted_at key) none in
              omega (arith, n, count_first (key, x) (e ∷ es))
          | Equal ↦ λ same.
              let is : key ≡ e.0 = exact key e.0 same in
              let a : counts_it (key, e.1) ≡ counts_it e = ap (λ k. counts_it (k, e.1)) is in
              let b : counts_it (key, x) ≡ counts_it (e.0, x) = ap (λ k. counts_it (k, x)) is in
              omega (arith, a, b, count_first (e.0, x) es, count_first e es)
          | Greater ↦ λ more. omega (arith, count-put key x es (second _ _ h), count_first e (list.put R key x es), count_first e es)
        ] refl

    pub count-without : (key : K) (es : List (K × X)) → T (list.is_sorted R es)
        → count_by p (filter (λ e. not (eq_by_cmp R key e.0)) es) + counted_at key (list.find R key es) ≡ count_by p es
    count-without key [] h = refl
    count-without key (e ∷ es) h =
        let left = filter (λ (e : K × X). not (eq_by_cmp R key e.0)) es in
        let rest = count-without key es (second _ _ h) in
        elim (R key e.0) as (λ r. R key e.0 ≡ r
        → count_by p (cond (not (is_eq r)) (e ∷ left) left) + counted_at key (cond (is_eq r) (Some e.1) (list.find R key es)) ≡ count_by p (e ∷ es)) [
          | Less ↦ λ less. omega (arith, rest, count_first e left, count_first e es)
          | Equal ↦ λ same.
              let is : key ≡ e.0 = exact key e.0 same in
              let a : counts_it (key, e.1) ≡ counts_it e = ap (λ k. counts_it (k, e.1)) is in
              let none : list.find R key es ≡ None = none_below R key es (subst (λ k. T (list.below_all R k es)) (sym is) (first _ _ h)) in
              let n : counted_at key (list.find R key es) ≡ 0 = ap (counted_at key) none in
              omega (arith, rest, a, n, count_first e es)
          | Greater ↦ λ more. omega (arith, rest, count_first e left, count_first e es)
        ] refl
