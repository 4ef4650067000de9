-- Counts of entries, when one is put or some are left out.
use Rattle.std.proofs.Common.{◌≡◌, ◌≤◌, ℕ, ◌+◌, Bool, true, false, cond, Option, Some, None, List, [], ◌∷◌, inl, inr, refl, sym, ap, subst, ◌∙◌, arith}
use Rattle.std.specs.List.{filter, filter_map, count_by, cons_option}
use Rattle.std.specs.declared.cmp.Ordering.{Ordering}
use Rattle.std.specs.declared.cmp.Ordering.TheVariants.{Less, Equal, Greater}
use Rattle.std.specs.FinMap as map
use Rattle.std.specs.FinMap.Entries as list
use Rattle.off_account_rules.specs.Rows.{passes}
use Rattle.std.proofs.lemmas.List.Sums.{sum_by-cons}
use Rattle.off_table_laws.proofs.ListLemmas.{In, Distinct, counted_none, count_first}

module _ {A : Type 0} (p : A → Bool) where
  -- fewer elements count no more
  pub count_kept : (f : A → Bool) (xs : List A) → count_by p (filter f xs) ≤ count_by p xs
  count_kept f [] = omega arith
  count_kept f (x ∷ xs) =
      elim (f x) as (λ b. count_by p (cond b (x ∷ filter f xs) (filter f xs)) ≤ count_by p (x ∷ xs)) [
        | true ↦ omega (arith, count_kept f xs, count_first p x (filter f xs), count_first p x xs)
        | false ↦ omega (arith, count_kept f xs, count_first p x xs)
      ]

  -- where any two that count are one, one counts at most
  pub count_one : (xs : List A) → Distinct xs → ((x y : A) → In x xs → In y xs → p x ≡ true → p y ≡ true → x ≡ y) → count_by p xs ≤ 1
  count_one [] d one = omega arith
  count_one (y ∷ ys) d one =
      elim (p y) as (λ b. p y ≡ b → count_by p (y ∷ ys) ≤ 1) [
        | true ↦ λ e.
            let none : count_by p ys ≡ 0 = counted_none p ys (λ x i t. d.0 (subst (λ (w : A). In w ys) (one x y (inr i) (inl refl) t e) i)) in
            let first : count_by p (y ∷ ys) ≡ 1 + count_by p ys = count_first p y ys ∙ ap (λ b. cond b 1 0 + count_by p ys) e in
            omega arith
        | false ↦ λ e.
            let rest : count_by p ys ≤ 1 = count_one ys d.1 (λ x z i j. one x z (inr i) (inr j)) in
            let first : count_by p (y ∷ ys) ≡ 0 + count_by p ys = count_first p y ys ∙ ap (λ b. cond b 1 0 + count_by p ys) e in
            omega arith
      ] refl

  -- what counts is either of two kinds
  pub count_split : (r q : A → Bool) → ((x : A) → cond (p x) 1 0 ≡ cond (r x) 1 0 + cond (q x) 1 0) → (xs : List A) → count_by p xs ≡ count_by r xs + count_by q xs
  count_split r q each [] = refl
  count_split r q each (x ∷ xs) =
      omega (arith, count_first p x xs, each x, count_split r q each xs, sum_by-cons (λ y. cond (r y) 1 0) x xs, sum_by-cons (λ y. cond (q y) 1 0) x xs)

-- a count of what is made of elements
pub count_made : {A B : Type 0} (f : A → Option B) (p : B → Bool) (xs : List A) → count_by p (filter_map f xs) ≡ count_by (λ x. passes p (f x)) xs
count_made f p [] = refl
count_made f p (x ∷ xs) =
    elim (f x) as (λ o. count_by p (cons_option o (filter_map f xs)) ≡ cond (passes p o) 1 0 + count_by (λ y. passes p (f y)) xs) [
      | None ↦ omega (arith, count_made f p xs)
      | Some y ↦ omega (arith, count_made f p xs, count_first p y (filter_map f xs))
    ] ∙ sym (count_first (λ y. passes p (f y)) x xs)

-- an entry that doesn't count is put
module _ {K X : Type 0} (R : K → K → Ordering) (p : K × X → Bool) (key : K) (x : X) (never : p (key, x) ≡ false) where
  abbrev counted : K × X → ℕ
  counted e = cond (p e) 1 0

  nothing : (k : K) → k ≡ key → counted (k, x) ≡ 0
  nothing k same = ap (λ (l : K). counted (l, x)) same ∙ ap (λ b. cond {A = ℕ} b 1 0) never

  pub count_put : map.IsAntisymmetric R → (es : List (K × X)) → count_by p (list.put R key x es) ≤ count_by p es
  count_put exact [] = omega (arith, count_first p (key, x) [], nothing key refl)
  count_put exact (e ∷ es) =
      elim (R key e.0) as (λ r. R key e.0 ≡ r → count_by p (list.by_order r ((key, x) ∷ e ∷ es) ((e.0, x) ∷ es) (e ∷ list.put R key x es)) ≤ count_by p (e ∷ es)) [
        | Less ↦ λ less. omega (arith, count_first p (key, x) (e ∷ es), nothing key refl)
        | Equal ↦ λ tied. omega (arith, nothing e.0 (sym (exact key e.0 tied)), count_first p (e.0, x) es, count_first p e es)
        | Greater ↦ λ more. omega (arith, count_put exact es, count_first p e (list.put R key x es), count_first p e es)
      ] refl
