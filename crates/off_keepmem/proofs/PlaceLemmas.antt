-- Entries in order, over any total order: where a key is put, dropped and found, by a place in front of which all keys lie below it.
use Rattle.std.proofs.Common.{◌≡◌, ℕ, zero, suc, ◌<◌, Bool, true, false, cond, not, ◌&&◌, Option, Some, None, List, [], ◌∷◌, ◌++◌, length, take, drop, refl, ap, ◌∙◌, get_or, slice_get, arith}
use lib.Dec.{T}
use Rattle.std.specs.List.{filter, find}
use Rattle.std.specs.Option.{option_or}
use Rattle.std.specs.Ordering.{is_lt, is_eq, eq_by_cmp}
use Rattle.std.specs.Cmp.{IsTotalOrder}
use Rattle.std.specs.declared.cmp.Ordering.{Ordering}
use Rattle.std.specs.declared.cmp.Ordering.TheVariants.{Less, Equal, Greater}
use Rattle.std.specs.FinMap.Entries as list
use Rattle.off_defs.proofs.EntryLemmas.{is_less, holds, held, first, second, after_by}

pub both : (a b : Bool) → T a → T b → T (a && b)
both true b p q = q
both false b p q = p

is_more : (r : Ordering) → ¬ (r ≡ Less) → ¬ (r ≡ Equal) → r ≡ Greater
is_more Less p q = absurd (p refl)
is_more Equal p q = absurd (q refl)
is_more Greater p q = refl

less_by : (r : Ordering) → ¬ (r ≡ Greater) → is_eq r ≡ false → r ≡ Less
less_by Less p q = refl
less_by Equal p q = cc
less_by Greater p q = absurd (p refl)

-- a list opened at a place
pub opened : {A : Type 0} (es : List A) (n : ℕ) (d : A) → n < length es → drop n es ≡ get_or es n d ∷ drop (suc n) es
opened [] n d within = absurd (omega (arith, within))
opened (x ∷ es) zero d within = refl
opened (x ∷ es) (suc n) d within = opened es n d (omega (arith, within))

pub parted : {A : Type 0} (es : List A) (n : ℕ) → es ≡ take n es ++ drop n es
parted [] zero = refl
parted [] (suc n) = refl
parted (x ∷ es) zero = refl
parted (x ∷ es) (suc n) = ap (λ (w : List _). x ∷ w) (parted es n)

pub parted_at : {A : Type 0} (es : List A) (n : ℕ) (d : A) → n < length es → es ≡ take n es ++ get_or es n d ∷ drop (suc n) es
parted_at es n d within = parted es n ∙ ap (λ (w : List _). take n es ++ w) (opened es n d within)

pub taken_at : {A : Type 0} (es : List A) (n : ℕ) (d : A) → n < length es → take (suc n) es ≡ take n es ++ get_or es n d ∷ []
taken_at [] n d within = absurd (omega (arith, within))
taken_at (x ∷ es) zero d within = refl
taken_at (x ∷ es) (suc n) d within = ap (λ (w : List _). x ∷ w) (taken_at es n d (omega (arith, within)))

module _ {K X : Type 0} (R : K → K → Ordering) where
  -- the key lies above all keys of the list
  abbrev pub Past : K → List (K × X) → Type 0
  Past k [] = Unit {0}
  Past k (x ∷ xs) = (R k x.0 ≡ Greater) × Past k xs

  -- the key doesn't lie above the first one
  abbrev pub Reached : K → List (K × X) → Type 0
  Reached k [] = Unit {0}
  Reached k (x ∷ xs) = ¬ (R k x.0 ≡ Greater)

  abbrev pub is_first : K → List (K × X) → Bool
  is_first k [] = false
  is_first k (x ∷ xs) = is_eq (R k x.0)

  abbrev but : K → List (K × X) → List (K × X)
  but k es = filter (λ e. not (eq_by_cmp R k e.0)) es

  pub past_more : (k : K) (l : List (K × X)) (e : K × X) → Past k l → R k e.0 ≡ Greater → Past k (l ++ e ∷ [])
  past_more k [] e h is = (is, tt)
  past_more k (x ∷ l) e h is = (h.0, past_more k l e h.1 is)

  past_put : (k : K) (v : X) (l m : List (K × X)) → Past k l → list.put R k v (l ++ m) ≡ l ++ list.put R k v m
  past_put k v [] m h = refl
  past_put k v (x ∷ l) m h =
      ap (λ (r : Ordering). list.by_order r ((k, v) ∷ x ∷ (l ++ m)) ((x.0, v) ∷ (l ++ m)) (x ∷ list.put R k v (l ++ m))) h.0
      ∙ ap (λ (w : List (K × X)). x ∷ w) (past_put k v l m h.1)

  past_but : (k : K) (l m : List (K × X)) → Past k l → but k (l ++ m) ≡ l ++ but k m
  past_but k [] m h = refl
  past_but k (x ∷ l) m h =
      ap (λ (r : Ordering). cond (not (is_eq r)) (x ∷ but k (l ++ m)) (but k (l ++ m))) h.0
      ∙ ap (λ (w : List (K × X)). x ∷ w) (past_but k l m h.1)

  past_find : (k : K) (l m : List (K × X)) → Past k l → list.find R k (l ++ m) ≡ list.find R k m
  past_find k [] m h = refl
  past_find k (x ∷ l) m h =
      ap (λ (r : Ordering). cond (is_eq r) (Some x.1) (list.find R k (l ++ m))) h.0 ∙ past_find k l m h.1

  past_next : (k : K) (l m : List (K × X)) → Past k l → find (after_by R (Some k)) (l ++ m) ≡ find (after_by R (Some k)) m
  past_next k [] m h = refl
  past_next k (x ∷ l) m h =
      ap (λ (r : Ordering). cond (is_lt r) (Some x) (find (after_by R (Some k)) (l ++ m))) h.0 ∙ past_next k l m h.1

  -- a key below all of a list has nothing there, and stands in front
  below_but : (k : K) (r : List (K × X)) → T (list.below_all R k r) → but k r ≡ r
  below_but k [] h = refl
  below_but k (x ∷ r) h =
      ap (λ (o : Ordering). cond (not (is_eq o)) (x ∷ but k r) (but k r)) (is_less (R k x.0) (holds _ (first _ _ h)))
      ∙ ap (λ (w : List (K × X)). x ∷ w) (below_but k r (second _ _ h))

  below_find : (k : K) (r : List (K × X)) → T (list.below_all R k r) → list.find R k r ≡ None
  below_find k [] h = refl
  below_find k (x ∷ r) h =
      ap (λ (o : Ordering). cond (is_eq o) (Some x.1) (list.find R k r)) (is_less (R k x.0) (holds _ (first _ _ h)))
      ∙ below_find k r (second _ _ h)

  below_put : (k : K) (v : X) (r : List (K × X)) → T (list.below_all R k r) → list.put R k v r ≡ (k, v) ∷ r
  below_put k v [] h = refl
  below_put k v (x ∷ r) h =
      ap (λ (o : Ordering). list.by_order o ((k, v) ∷ x ∷ r) ((x.0, v) ∷ r) (x ∷ list.put R k v r)) (is_less (R k x.0) (holds _ (first _ _ h)))

  below_next : (k : K) (r : List (K × X)) → T (list.below_all R k r) → find (after_by R (Some k)) r ≡ slice_get r 0
  below_next k [] h = refl
  below_next k (x ∷ r) h = ap (λ b. cond b (Some x) (find (after_by R (Some k)) r)) (holds _ (first _ _ h))

  -- what lies behind a part that is looked through, all above the key
  put_part : (k : K) (v : X) (s r : List (K × X)) → T (list.below_all R k r) → list.put R k v (s ++ r) ≡ list.put R k v s ++ r
  put_part k v [] r h = below_put k v r h
  put_part k v (x ∷ s) r h =
      elim (R k x.0) as (λ c. list.by_order c ((k, v) ∷ x ∷ (s ++ r)) ((x.0, v) ∷ (s ++ r)) (x ∷ list.put R k v (s ++ r))
      ≡ list.by_order c ((k, v) ∷ x ∷ s) ((x.0, v) ∷ s) (x ∷ list.put R k v s) ++ r) [
        | Less ↦ refl
        | Equal ↦ refl
        | Greater ↦ ap (λ (w : List (K × X)). x ∷ w) (put_part k v s r h)
      ]

  but_part : (k : K) (s r : List (K × X)) → T (list.below_all R k r) → but k (s ++ r) ≡ but k s ++ r
  but_part k [] r h = below_but k r h
  but_part k (x ∷ s) r h =
      elim (not (eq_by_cmp R k x.0)) as (λ b. cond b (x ∷ but k (s ++ r)) (but k (s ++ r)) ≡ cond b (x ∷ but k s) (but k s) ++ r) [
        | true ↦ ap (λ (w : List (K × X)). x ∷ w) (but_part k s r h)
        | false ↦ but_part k s r h
      ]

  find_part : (k : K) (s r : List (K × X)) → T (list.below_all R k r) → list.find R k (s ++ r) ≡ list.find R k s
  find_part k [] r h = below_find k r h
  find_part k (x ∷ s) r h = ap (λ (w : Option X). cond (eq_by_cmp R k x.0) (Some x.1) w) (find_part k s r h)

  next_part : (k : K) (s r : List (K × X)) → T (list.below_all R k r)
      → find (after_by R (Some k)) (s ++ r) ≡ option_or (find (after_by R (Some k)) s) (slice_get r 0)
  next_part k [] r h = below_next k r h
  next_part k (x ∷ s) r h =
      elim (is_lt (R k x.0)) as (λ b. cond b (Some x) (find (after_by R (Some k)) (s ++ r)) ≡ option_or (cond b (Some x) (find (after_by R (Some k)) s)) (slice_get r 0)) [
        | true ↦ refl
        | false ↦ next_part k s r h
      ]

  -- a part in the middle, in front of which all keys lie below, and behind which all lie above
  pub find_within : (k : K) (l s r : List (K × X)) → Past k l → T (list.below_all R k r) → list.find R k (l ++ (s ++ r)) ≡ list.find R k s
  find_within k l s r front behind = past_find k l (s ++ r) front ∙ find_part k s r behind

  pub put_within : (k : K) (v : X) (l s r : List (K × X)) → Past k l → T (list.below_all R k r) → list.put R k v (l ++ (s ++ r)) ≡ l ++ (list.put R k v s ++ r)
  put_within k v l s r front behind = past_put k v l (s ++ r) front ∙ ap (λ (w : List (K × X)). l ++ w) (put_part k v s r behind)

  pub but_within : (k : K) (l s r : List (K × X)) → Past k l → T (list.below_all R k r) → but k (l ++ (s ++ r)) ≡ l ++ (but k s ++ r)
  but_within k l s r front behind = past_but k l (s ++ r) front ∙ ap (λ (w : List (K × X)). l ++ w) (but_part k s r behind)

  pub next_within : (k : K) (l s r : List (K × X)) → Past k l → T (list.below_all R k r)
      → find (after_by R (Some k)) (l ++ (s ++ r)) ≡ option_or (find (after_by R (Some k)) s) (slice_get r 0)
  next_within k l s r front behind = past_next k l (s ++ r) front ∙ next_part k s r behind

  below_at : (x : K) (l : List (K × X)) (e : K × X) (r : List (K × X)) → T (list.below_all R x (l ++ e ∷ r)) → R x e.0 ≡ Less
  below_at x [] e r h = is_less (R x e.0) (holds _ (first _ _ h))
  below_at x (y ∷ l) e r h = below_at x l e r (second _ _ h)

  below_front : (x : K) (l m : List (K × X)) → T (list.below_all R x (l ++ m)) → T (list.below_all R x l)
  below_front x [] m h = tt
  below_front x (y ∷ l) m h = both _ _ (first _ _ h) (below_front x l m (second _ _ h))

  pub below_back : (x : K) (l m : List (K × X)) → T (list.below_all R x (l ++ m)) → T (list.below_all R x m)
  below_back x [] m h = h
  below_back x (y ∷ l) m h = below_back x l m (second _ _ h)

  pub sorted_front : (l m : List (K × X)) → T (list.is_sorted R (l ++ m)) → T (list.is_sorted R l)
  sorted_front [] m h = tt
  sorted_front (x ∷ l) m h = both _ _ (below_front x.0 l m (first _ _ h)) (sorted_front l m (second _ _ h))

  pub sorted_rest : (l m : List (K × X)) → T (list.is_sorted R (l ++ m)) → T (list.is_sorted R m)
  sorted_rest [] m h = h
  sorted_rest (x ∷ l) m h = sorted_rest l m (second _ _ h)

  module _ (o : IsTotalOrder R) where
    -- a key that isn't below the entry in the middle lies above all in front of it
    above_one : (k : K) (x e : K × X) → R x.0 e.0 ≡ Less → ¬ (R k e.0 ≡ Less) → R k x.0 ≡ Greater
    above_one k x e h not_below =
        is_more (R k x.0)
        (λ less. not_below (o.trans k x.0 e.0 less h))
        (λ equal. not_below (o.congr k x.0 e.0 equal ∙ h))

    pub past_front : (k : K) (l : List (K × X)) (e : K × X) (r : List (K × X)) → T (list.is_sorted R (l ++ e ∷ r)) → ¬ (R k e.0 ≡ Less) → Past k l
    past_front k [] e r h not_below = tt
    past_front k (x ∷ l) e r h not_below =
        (above_one k x e (below_at x.0 l e r (first _ _ h)) not_below, past_front k l e r (second _ _ h) not_below)

    below_up : (k x : K) (es : List (K × X)) → ¬ (R k x ≡ Greater) → T (list.below_all R x es) → T (list.below_all R k es)
    below_up k x [] not_above h = tt
    below_up k x (e ∷ es) not_above h =
        let up : R x e.0 ≡ Less = is_less (R x e.0) (holds _ (first _ _ h)) in
        let less : R k e.0 ≡ Less = elim (R k x) as (λ r. R k x ≡ r → R k e.0 ≡ Less) [
          | Less ↦ λ is. o.trans k x e.0 is up
          | Equal ↦ λ is. o.congr k x e.0 is ∙ up
          | Greater ↦ λ is. absurd (not_above is)
        ] refl in
        both _ _ (held _ (ap is_lt less)) (below_up k x es not_above (second _ _ h))

    -- a key that isn't above the first of a list in order lies below the others, and below all where it isn't the first one's
    pub below_others : (k : K) (e : K × X) (r : List (K × X)) → T (list.is_sorted R (e ∷ r)) → ¬ (R k e.0 ≡ Greater) → T (list.below_all R k r)
    below_others k e r h not_above = below_up k e.0 r not_above (first _ _ h)

    pub below_all_of : (k : K) (es : List (K × X)) → T (list.is_sorted R es) → Reached k es → is_first k es ≡ false → T (list.below_all R k es)
    below_all_of k [] h reached apart = tt
    below_all_of k (e ∷ es) h reached apart =
        both _ _ (held _ (ap is_lt (less_by (R k e.0) reached apart))) (below_others k e es h reached)

    -- the key's own entry stands behind these
    module _ (k : K) (l : List (K × X)) (e : K × X) (r : List (K × X)) (h : T (list.is_sorted R (l ++ e ∷ r))) (is : R k e.0 ≡ Equal) where
      front_here : Past k l
      front_here = past_front k l e r h (λ less. cc)

      above_here : T (list.below_all R k r)
      above_here = below_others k e r (sorted_rest l (e ∷ r) h) (λ greater. cc)

      pub find_here : list.find R k (l ++ e ∷ r) ≡ Some e.1
      find_here = past_find k l (e ∷ r) front_here ∙ ap (λ (c : Ordering). cond (is_eq c) (Some e.1) (list.find R k r)) is

      pub put_here : (v : X) → list.put R k v (l ++ e ∷ r) ≡ l ++ (e.0, v) ∷ r
      put_here v =
          past_put k v l (e ∷ r) front_here
          ∙ ap (λ (c : Ordering). l ++ list.by_order c ((k, v) ∷ e ∷ r) ((e.0, v) ∷ r) (e ∷ list.put R k v r)) is

      pub but_here : but k (l ++ e ∷ r) ≡ l ++ r
      but_here =
          past_but k l (e ∷ r) front_here
          ∙ ap (λ (c : Ordering). l ++ cond (not (is_eq c)) (e ∷ but k r) (but k r)) is
          ∙ ap (λ (w : List (K × X)). l ++ w) (below_but k r above_here)

      pub next_here : find (after_by R (Some k)) (l ++ e ∷ r) ≡ slice_get r 0
      next_here =
          past_next k l (e ∷ r) front_here
          ∙ ap (λ (c : Ordering). cond (is_lt c) (Some e) (find (after_by R (Some k)) r)) is
          ∙ below_next k r above_here

  -- the key has no entry between these
  module _ (k : K) (l r : List (K × X)) (front : Past k l) (behind : T (list.below_all R k r)) where
    pub find_apart : list.find R k (l ++ r) ≡ None
    find_apart = past_find k l r front ∙ below_find k r behind

    pub put_apart : (v : X) → list.put R k v (l ++ r) ≡ l ++ (k, v) ∷ r
    put_apart v = past_put k v l r front ∙ ap (λ (w : List (K × X)). l ++ w) (below_put k v r behind)

    pub but_apart : but k (l ++ r) ≡ l ++ r
    but_apart = past_but k l r front ∙ ap (λ (w : List (K × X)). l ++ w) (below_but k r behind)

    pub next_apart : find (after_by R (Some k)) (l ++ r) ≡ slice_get r 0
    next_apart = past_next k l r front ∙ below_next k r behind
