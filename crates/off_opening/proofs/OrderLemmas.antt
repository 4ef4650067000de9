-- Entries in the order of their keys, over any total order in which tied keys are equal: the row of a key is that of its entry, and the first
-- entry that passes a test is below all others that do.
use Rattle.std.proofs.Common.{◌≡◌, ℕ, zero, suc, ◌<◌, ◌≤◌, true, false, cond, ◌⊎◌, inl, inr, Some, None, List, [], ◌∷◌, length, refl, sym, ap, subst, ◌∙◌, arith}
use Rattle.std.proofs.lemmas.Bool.{cases_lt}
use Rattle.std.proofs.lemmas.Option.{same_Some}
use Rattle.std.specs.Prelude.{slice_index_or}
use lib.Dec.{T}
use Rattle.std.specs.Ordering.{is_eq, eq_by_cmp, ordering_reverse, ordering_index}
use Rattle.std.specs.Cmp.{IsTotalOrder, tied_itself}
use Rattle.std.specs.declared.cmp.Ordering.{Ordering}
use Rattle.std.specs.declared.cmp.Ordering.TheVariants.{Less, Equal, Greater}
use Rattle.std.specs.FinMap.{IsAntisymmetric}
use Rattle.std.specs.FinMap.Entries as list
use Rattle.off_defs.proofs.EntryLemmas.{is_less, is_equal, holds, first, second}

-- a place that is not above another is the same, or below it
same_or_below : (i j : ℕ) → i ≤ j → (i ≡ j) ⊎ (i < j)
same_or_below i j below = elim (cases_lt i j) [ inl less ↦ inr less | inr not ↦ inl (omega (arith, below, not)) ]

-- it is one of the list
abbrev pub Among : {A : Type 0} → A → List A → Type 0
Among x [] = ⊥
Among x (y ∷ ys) = (x ≡ y) ⊎ Among x ys

module _ {K : Type 0} (R : K → K → Ordering) (o : IsTotalOrder R) where
  turn : (x y : K) → R x y ≡ Less → R y x ≡ Greater
  turn x y less = o.antisymm y x ∙ ap ordering_reverse less

  turn_back : (x y : K) → R x y ≡ Greater → R y x ≡ Less
  turn_back x y more = o.antisymm y x ∙ ap ordering_reverse more

  still_above : (x y q : K) → R x y ≡ Less → R x q ≡ Greater → R y q ≡ Greater
  still_above x y q less more = turn q y (o.trans q x y (turn_back x q more) less)

  equal_above : (x y q : K) → R x y ≡ Less → R x q ≡ Equal → R y q ≡ Greater
  equal_above x y q less same = turn q y (sym (o.congr x q y same) ∙ less)

  -- compared with one key, keys that rise are first less, then equal, then greater
  index_rises : (x y q : K) → R x y ≡ Less → ordering_index (R x q) ≤ ordering_index (R y q)
  index_rises x y q less =
      elim (R x q) as (λ r. R x q ≡ r → ordering_index r ≤ ordering_index (R y q)) [
        | Less ↦ λ is. omega arith
        | Equal ↦ λ is. subst (λ (r : Ordering). 1 ≤ ordering_index r) (sym (equal_above x y q less is)) (omega arith)
        | Greater ↦ λ is. subst (λ (r : Ordering). 2 ≤ ordering_index r) (sym (still_above x y q less is)) (omega arith)
      ] refl

  -- one that is less or greater isn't equal
  pub not_equal : (x q : K) → (R x q ≡ Less) ⊎ (R x q ≡ Greater) → eq_by_cmp R q x ≡ false
  not_equal x q apart =
      elim apart [
        | inl less ↦ ap is_eq (turn x q less)
        | inr more ↦ ap is_eq (turn_back x q more)
      ]

module _ {K X : Type 0} (R : K → K → Ordering) where
  pub below_among : (k : K) (es : List (K × X)) (e : K × X) → T (list.below_all R k es) → Among e es → R k e.0 ≡ Less
  below_among k [] e h among = absurd among
  below_among k (x ∷ es) e h among =
      elim among [
        | inl same ↦ subst (λ (v : K × X). R k v.0 ≡ Less) (sym same) (is_less (R k x.0) (holds _ (first _ _ h)))
        | inr later ↦ below_among k es e (second _ _ h) later
      ]

  -- the row of a key stands in an entry
  pub entry_of : IsAntisymmetric R → (k : K) (v : X) (es : List (K × X)) → list.find R k es ≡ Some v → Among (k, v) es
  entry_of exact k v [] f = cc
  entry_of exact k v (x ∷ es) f =
      elim (eq_by_cmp R k x.0) as (λ b. eq_by_cmp R k x.0 ≡ b → cond b (Some x.1) (list.find R k es) ≡ Some v → ((k, v) ≡ x) ⊎ Among (k, v) es) [
        | true ↦ λ is f.
            let key : k ≡ x.0 = exact k x.0 (is_equal (R k x.0) is) in
            let row : x.1 ≡ v = same_Some x.1 v f in
            inl (ap (λ (a : K). (a, v)) key ∙ ap (λ (b : X). (x.0, b)) (sym row))
        | false ↦ λ is f. inr (entry_of exact k v es f)
      ] refl f

  module _ (o : IsTotalOrder R) where
    -- an entry has its key's row
    pub row_of : (e : K × X) (es : List (K × X)) → T (list.is_sorted R es) → Among e es → list.find R e.0 es ≡ Some e.1
    row_of e [] h among = absurd among
    row_of e (x ∷ es) h among =
        elim among [
          | inl same ↦ subst (λ (v : K × X). list.find R v.0 (x ∷ es) ≡ Some v.1) (sym same) (ap (λ (r : Ordering). cond (is_eq r) (Some x.1) (list.find R x.0 es)) (tied_itself o x.0))
          | inr later ↦
              let less = below_among x.0 es e (first _ _ h) later in
              ap (λ (r : Ordering). cond (is_eq r) (Some x.1) (list.find R e.0 es)) (o.antisymm e.0 x.0 ∙ ap ordering_reverse less)
              ∙ row_of e es (second _ _ h) later
        ]

    -- keys rise from place to place
    above_first : (k : K) (es : List (K × X)) (j : ℕ) (d : K × X) → T (list.below_all R k es) → j < length es → R k (slice_index_or es j d).0 ≡ Less
    above_first k [] j d h within = absurd (omega (arith, within))
    above_first k (x ∷ es) zero d h within = is_less (R k x.0) (holds _ (first _ _ h))
    above_first k (x ∷ es) (suc j) d h within = above_first k es j d (second _ _ h) (omega (arith, within))

    pub rises : (es : List (K × X)) (i j : ℕ) (d : K × X) → T (list.is_sorted R es) → i < j → j < length es → R (slice_index_or es i d).0 (slice_index_or es j d).0 ≡ Less
    rises [] i j d h below within = absurd (omega (arith, within))
    rises (x ∷ es) zero zero d h below within = absurd (omega (arith, below))
    rises (x ∷ es) zero (suc j) d h below within = above_first x.0 es j d (first _ _ h) (omega (arith, within))
    rises (x ∷ es) (suc i) zero d h below within = absurd (omega (arith, below))
    rises (x ∷ es) (suc i) (suc j) d h below within = rises es i j d (second _ _ h) (omega (arith, below)) (omega (arith, within))

    -- what stands at a place, and at which place what is among them stands
    pub among_at : (es : List (K × X)) (i : ℕ) (d : K × X) → i < length es → Among (slice_index_or es i d) es
    among_at [] i d within = absurd (omega (arith, within))
    among_at (x ∷ es) zero d within = inl refl
    among_at (x ∷ es) (suc i) d within = inr (among_at es i d (omega (arith, within)))

    pub place_of : (e : K × X) (es : List (K × X)) (d : K × X) → Among e es → (i : ℕ) × (i < length es) × (slice_index_or es i d ≡ e)
    place_of e [] d among = absurd among
    place_of e (x ∷ es) d among =
        elim among [
          | inl same ↦ (0, omega arith, sym same)
          | inr later ↦ let p = place_of e es d later in (suc p.0, omega (arith, p.1), p.2)
        ]

    -- a key from which all others differ has no row
    pub none_of : (q : K) (es : List (K × X)) → ((e : K × X) → Among e es → eq_by_cmp R q e.0 ≡ false) → list.find R q es ≡ None
    none_of q [] differ = refl
    none_of q (x ∷ es) differ =
        ap (λ b. cond b (Some x.1) (list.find R q es)) (differ x (inl refl)) ∙ none_of q es (λ e among. differ e (inr among))

    pub indexes_rise : (es : List (K × X)) (i j : ℕ) (d : K × X) (q : K) → T (list.is_sorted R es) → i ≤ j → j < length es
        → ordering_index (R (slice_index_or es i d).0 q) ≤ ordering_index (R (slice_index_or es j d).0 q)
    indexes_rise es i j d q h below within =
        elim (same_or_below i j below) [
          | inl same ↦ subst (λ (n : ℕ). ordering_index (R (slice_index_or es i d).0 q) ≤ ordering_index (R (slice_index_or es n d).0 q)) same (omega arith)
          | inr less ↦ index_rises R o (slice_index_or es i d).0 (slice_index_or es j d).0 q (rises es i j d h less within)
        ]

pub not_both : {K : Type 0} (R : K → K → Ordering) → IsTotalOrder R → (a b : K) → R a b ≡ Less → R b a ≡ Less → ⊥
not_both R o a b p q =
    let r : R a b ≡ ordering_reverse (R b a) = o.antisymm a b in
    let s : ordering_reverse (R b a) ≡ Greater = ap ordering_reverse q in
    cc
