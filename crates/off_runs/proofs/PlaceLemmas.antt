-- The first of a list that passes a test, by the place where a search ended.
use Rattle.std.proofs.Common.{◌≡◌, ℕ, zero, suc, ◌<◌, ◌≤◌, Bool, true, cond, List, [], ◌∷◌, length, drop, get_or, Option, Some, None, refl, sym, ap, ◌∙◌, arith}
use Rattle.std.specs.List.{find, slice_get}
use Rattle.std.proofs.lemmas.Option.{slice_get_past}

module _ {A : Type 0} (t : A → Bool) where
  here : (xs : List A) (i : ℕ) (d : A) → i < length xs → t (get_or xs i d) ≡ true → slice_get xs i ≡ find t (drop i xs)
  here [] i d h e = absurd (omega (arith, h))
  here (x ∷ xs) zero d h e = sym (ap (λ b. cond b (Some x) (find t xs)) e)
  here (x ∷ xs) (suc i) d h e = here xs i d (omega (arith, h)) e

  past : (xs : List A) (i : ℕ) → length xs ≤ i → slice_get xs i ≡ find t (drop i xs)
  past [] zero h = refl
  past [] (suc i) h = refl
  past (x ∷ xs) zero h = absurd (omega (arith, h))
  past (x ∷ xs) (suc i) h = past xs i (omega (arith, h))

  pub found_here : (xs : List A) (i : ℕ) (x : A) → i < length xs → x ≡ get_or xs i x → t x ≡ true → find t (drop i xs) ≡ find t xs → slice_get xs i ≡ find t xs
  found_here xs i x h is e so = here xs i x h (ap t (sym is) ∙ e) ∙ so

  pub found_past : (xs : List A) (i : ℕ) → length xs ≤ i → find t (drop i xs) ≡ find t xs → slice_get xs i ≡ find t xs
  found_past xs i h so = past xs i h ∙ so

-- what stands at a place, or that nothing does
pub some_there : {A : Type 0} (xs ys : List A) (i : ℕ) (x : A) (f : Option A) → ys ≡ xs → i < length ys → x ≡ get_or ys i x → slice_get xs i ≡ f → Some x ≡ f
some_there {A = A} xs ys i x f same h is found = ap Some is ∙ sym (within ys i x h) ∙ ap (λ (zs : List A). slice_get zs i) same ∙ found
  where
    within : (zs : List A) (k : ℕ) (d : A) → k < length zs → slice_get zs k ≡ Some (get_or zs k d)
    within [] k d l = absurd (omega (arith, l))
    within (z ∷ zs) zero d l = refl
    within (z ∷ zs) (suc k) d l = within zs k d (omega (arith, l))

pub none_there : {A : Type 0} (xs ys : List A) (i : ℕ) (f : Option A) → ys ≡ xs → length ys ≤ i → slice_get xs i ≡ f → None ≡ f
none_there {A = A} xs ys i f same h found = sym (slice_get_past ys i h) ∙ ap (λ (zs : List A). slice_get zs i) same ∙ found
