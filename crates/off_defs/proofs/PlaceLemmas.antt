-- Entries in order: what stands at a key's place, and what an insertion and a removal there make. For any keys, values and order.
use Rattle.std.proofs.Common.{◌≡◌, ℕ, zero, suc, ◌+◌, ◌<◌, false, cond, not, T, List, [], ◌∷◌, ◌++◌, length, slice_index_or, slice_set, take, drop, Option, Some, None, refl, sym, ap, ◌∙◌, subst, arith, one-add}
use Rattle.std.specs.List.{prefix_len}
use Rattle.std.specs.Cmp.{IsTotalOrder}
use Rattle.std.specs.Ordering.{is_gt, is_eq, eq_by_cmp}
use Rattle.std.specs.declared.cmp.Ordering.{Ordering}
use Rattle.std.specs.declared.cmp.Ordering.TheVariants.{Less, Equal, Greater}
use Rattle.std.specs.FinMap.Entries.{find, put, by_order, where_key, below_all, is_sorted}
use Rattle.off_defs.proofs.EntryLemmas.{is_less, holds, first, second}

pub lower : {K : Type 0} (R : K → K → Ordering) → IsTotalOrder R → (k key : K) (r : Ordering) → R k key ≡ r → is_gt r ≡ false → (other : K) → R key other ≡ Less → R k other ≡ Less
lower R total k key Less is low other p = total.trans k key other is p
lower R total k key Equal is low other p = total.congr k key other is ∙ p
lower R total k key Greater is low other p = cc

-- a list opened at a place, and with another element there
pub opened : {A : Type 0} (xs : List A) (n : ℕ) (x : A) → n < length xs → x ≡ slice_index_or xs n x → drop n xs ≡ x ∷ drop (suc n) xs
opened [] n x within is = absurd (omega (arith, within))
opened (y ∷ xs) zero x within is = ap (λ z. z ∷ xs) (sym is)
opened (y ∷ xs) (suc n) x within is = opened xs n x (omega (arith, within)) is

pub set_opened : {A : Type 0} (xs : List A) (n : ℕ) (x : A) → n < length xs → slice_set xs n x ≡ take n xs ++ x ∷ drop (suc n) xs
set_opened [] n x within = absurd (omega (arith, within))
set_opened (y ∷ xs) zero x within = refl
set_opened {A} (y ∷ xs) (suc n) x within = ap (λ (t : List A). y ∷ t) (set_opened xs n x (omega (arith, within)))

module _ {K X : Type 0} (R : K → K → Ordering) (k : K) where
  abbrev pub place : List (K × X) → ℕ
  place es = prefix_len (λ e. is_gt (R k e.0)) es

  -- what stands at the place of the key: its value, what an insertion makes of the rest, and a removal
  abbrev pub value_at : List (K × X) → Option X
  value_at [] = None
  value_at (e ∷ es) = cond (is_eq (R k e.0)) (Some e.1) None

  abbrev pub put_at : X → List (K × X) → List (K × X)
  put_at v [] = (k, v) ∷ []
  put_at v (e ∷ es) = cond (is_eq (R k e.0)) ((e.0, v) ∷ es) ((k, v) ∷ e ∷ es)

  abbrev pub less_at : List (K × X) → List (K × X)
  less_at [] = []
  less_at (e ∷ es) = cond (is_eq (R k e.0)) es (e ∷ es)

  pub put_there : (v : X) (es : List (K × X)) → put R k v es ≡ take (place es) es ++ put_at v (drop (place es) es)
  put_there v [] = refl
  put_there v (e ∷ es) =
      elim (R k e.0) as (λ r. R k e.0 ≡ r → by_order r ((k, v) ∷ e ∷ es) ((e.0, v) ∷ es) (e ∷ put R k v es)
      ≡ take (cond (is_gt r) (1 + place es) 0) (e ∷ es) ++ put_at v (drop (cond (is_gt r) (1 + place es) 0) (e ∷ es))) [
        | Less ↦ λ p. ap (λ r. cond (is_eq r) ((e.0, v) ∷ es) ((k, v) ∷ e ∷ es)) (sym p)
        | Equal ↦ λ p. ap (λ r. cond (is_eq r) ((e.0, v) ∷ es) ((k, v) ∷ e ∷ es)) (sym p)
        | Greater ↦ λ p. subst (λ n. e ∷ put R k v es ≡ take n (e ∷ es) ++ put_at v (drop n (e ∷ es))) (sym (one-add (place es))) (ap (λ (x : List (K × X)). e ∷ x) (put_there v es))
      ] refl

  module _ (total : IsTotalOrder R) where
    -- a key that is below one below all entries, or ties with it, has none of them
    pub none_above : (key : K) (r : Ordering) → R k key ≡ r → is_gt r ≡ false → (es : List (K × X)) → T (below_all R key es) → find R k es ≡ None
    none_above key r is low [] h = refl
    none_above key r is low (e ∷ es) h =
        ap (λ o. cond (is_eq o) (Some e.1) (find R k es)) (lower R total k key r is low e.0 (is_less (R key e.0) (holds _ (first _ _ h))))
        ∙ none_above key r is low es (second _ _ h)

    pub all_above : (key : K) (r : Ordering) → R k key ≡ r → is_gt r ≡ false → (es : List (K × X)) → T (below_all R key es) → where_key R (λ x. not (eq_by_cmp R k x)) es ≡ es
    all_above key r is low [] h = refl
    all_above key r is low (e ∷ es) h =
        ap (λ o. cond (not (is_eq o)) (e ∷ where_key R (λ x. not (eq_by_cmp R k x)) es) (where_key R (λ x. not (eq_by_cmp R k x)) es)) (lower R total k key r is low e.0 (is_less (R key e.0) (holds _ (first _ _ h))))
        ∙ ap (λ (x : List (K × X)). e ∷ x) (all_above key r is low es (second _ _ h))

    pub found_there : (es : List (K × X)) → T (is_sorted R es) → find R k es ≡ value_at (drop (place es) es)
    found_there [] h = refl
    found_there (e ∷ es) h =
        elim (R k e.0) as (λ r. R k e.0 ≡ r → cond (is_eq r) (Some e.1) (find R k es) ≡ value_at (drop (cond (is_gt r) (1 + place es) 0) (e ∷ es))) [
          | Less ↦ λ p. none_above e.0 Less p refl es (first _ _ h) ∙ ap (λ r. cond (is_eq r) (Some e.1) None) (sym p)
          | Equal ↦ λ p. ap (λ r. cond (is_eq r) (Some e.1) None) (sym p)
          | Greater ↦ λ p. subst (λ n. find R k es ≡ value_at (drop n (e ∷ es))) (sym (one-add (place es))) (found_there es (second _ _ h))
        ] refl

    pub removed_there : (es : List (K × X)) → T (is_sorted R es) → where_key R (λ x. not (eq_by_cmp R k x)) es ≡ take (place es) es ++ less_at (drop (place es) es)
    removed_there [] h = refl
    removed_there (e ∷ es) h =
        elim (R k e.0) as (λ r. R k e.0 ≡ r → cond (not (is_eq r)) (e ∷ where_key R (λ x. not (eq_by_cmp R k x)) es) (where_key R (λ x. not (eq_by_cmp R k x)) es)
        ≡ take (cond (is_gt r) (1 + place es) 0) (e ∷ es) ++ less_at (drop (cond (is_gt r) (1 + place es) 0) (e ∷ es))) [
          | Less ↦ λ p. ap (λ (x : List (K × X)). e ∷ x) (all_above e.0 Less p refl es (first _ _ h)) ∙ ap (λ r. cond (is_eq r) es (e ∷ es)) (sym p)
          | Equal ↦ λ p. all_above e.0 Equal p refl es (first _ _ h) ∙ ap (λ r. cond (is_eq r) es (e ∷ es)) (sym p)
          | Greater ↦ λ p. subst (λ n. e ∷ where_key R (λ x. not (eq_by_cmp R k x)) es ≡ take n (e ∷ es) ++ less_at (drop n (e ∷ es))) (sym (one-add (place es))) (ap (λ (x : List (K × X)). e ∷ x) (removed_there es (second _ _ h)))
        ] refl
