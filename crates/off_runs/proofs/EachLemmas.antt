-- Lists whose elements change one by one.
use Rattle.std.proofs.Common.{◌≡◌, ℕ, zero, suc, ◌+◌, ◌<◌, ◌≤◌, ◌≢◌, true, false, nat_lt, List, [], ◌∷◌, length, map, get_or, set, refl, sym, subst, ◌∙◌, arith, length-set, get_or-set_same, get_or-set_other}
use Rattle.std.proofs.lemmas.Bool.Decides.{nat_tests}
use Rattle.std.specs.List.{All}
use Rattle.off_runs.specs.Held.{PoolHeld}
use Rattle.off_runs.specs.Changes.{EachBecomes, IsSame}

module _ {A : Type 0} (R : A → A → Type 0) where
  -- those below a place have changed
  pub record SoFar (old new : List A) (at : ℕ) : Type 0 where
    pub lengths : length new ≡ length old
    pub done : (k : ℕ) (x : A) → k < at → k < length old → R (get_or old k x) (get_or new k x)
    pub left : (k : ℕ) (x : A) → at ≤ k → get_or new k x ≡ get_or old k x

  pub none_yet : (old : List A) → SoFar old old 0
  none_yet old = record { lengths = refl; done = λ k x h. absurd (omega (arith, h)); left = λ k x h. refl }

  pub one_more : (old new : List A) (at : ℕ) (d z : A) → SoFar old new at → at < length new → R (get_or new at d) z → SoFar old (set new at z) (at + 1)
  one_more old new at d z so within r = record {
    lengths = length-set new at z ∙ so.lengths;
    done = λ k x h inside.
        elim (nat_lt k at) as (λ t. nat_lt k at ≡ t → R (get_or old k x) (get_or (set new at z) k x)) [
          | true ↦ λ t.
              let below : k < at = grind (arith, nat_tests) in
              let apart : k ≢ at = omega arith in
              subst (R (get_or old k x)) (sym (get_or-set_other new at k z x apart)) (so.done k x below inside)
          | false ↦ λ t.
              let same : at ≡ k = grind (arith, nat_tests) in
              let here : get_or old at x ≡ get_or new at d = default old at d x (omega (arith, within, so.lengths)) ∙ sym (so.left at d (omega arith)) in
              let there : get_or (set new at z) at x ≡ z = get_or-set_same new at z x within in
              subst (λ (i : ℕ). R (get_or old i x) (get_or (set new at z) i x)) same (subst (λ (v : A). R v (get_or (set new at z) at x)) (sym here) (subst (R (get_or new at d)) (sym there) r))
        ] refl;
    left = λ k x h. let apart : k ≢ at = omega (arith, h) in get_or-set_other new at k z x apart ∙ so.left k x (omega (arith, h));
  }
    where
      default : (xs : List A) (k : ℕ) (a b : A) → k < length xs → get_or xs k b ≡ get_or xs k a
      default [] k a b h = absurd (omega (arith, h))
      default (x ∷ xs) zero a b h = refl
      default (x ∷ xs) (suc k) a b h = default xs k a b (omega (arith, h))

  pub all_done : (old new : List A) (at : ℕ) → SoFar old new at → length new ≤ at → EachBecomes R old new
  all_done old new at so end = record { lengths = so.lengths; each = λ k x h. so.done k x (omega (arith, h, end, so.lengths)) h }

  -- what follows for all
  pub becomes_all : (P Q : A → Type 0) → ((x y : A) → R x y → P x → Q y) → (old new : List A) → EachBecomes R old new → All P old → All Q new
  becomes_all P Q f old new b all = λ k d h. let inside : k < length old = omega (arith, h, b.lengths) in f (get_or old k d) (get_or new k d) (b.each k d inside) (all k d inside)

  pub becomes_map : {B : Type 0} (f : A → B) → ((x y : A) → R x y → f y ≡ f x) → (old new : List A) → EachBecomes R old new → map f new ≡ map f old
  becomes_map f h [] [] b = refl
  becomes_map f h [] (y ∷ ys) b = absurd (omega (arith, b.lengths))
  becomes_map f h (x ∷ xs) [] b = absurd (omega (arith, b.lengths))
  becomes_map f h (x ∷ xs) (y ∷ ys) b =
      let first : f y ≡ f x = h x y (b.each 0 x (omega arith)) in
      let rest = becomes_map f h xs ys (record { lengths = omega (arith, b.lengths); each = λ k d lt. b.each (suc k) d (omega (arith, lt)) }) in
      cc

-- where each is as before, all are
all_same : {A : Type 0} (old new : List A) → length new ≡ length old → ((k : ℕ) (x : A) → k < length old → get_or new k x ≡ get_or old k x) → new ≡ old
all_same [] [] len each = refl
all_same [] (y ∷ ys) len each = absurd (omega (arith, len))
all_same (x ∷ xs) [] len each = absurd (omega (arith, len))
all_same (x ∷ xs) (y ∷ ys) len each =
    let first : y ≡ x = each 0 x (omega arith) in
    let rest : ys ≡ xs = all_same xs ys (omega (arith, len)) (λ k d lt. each (suc k) d (omega (arith, lt))) in
    cc

pub none_changed : (old new : List PoolHeld) → EachBecomes IsSame old new → new ≡ old
none_changed old new b = all_same old new b.lengths b.each
