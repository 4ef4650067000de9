-- What a test says of the elements of a list, one more at a time.
use Rattle.std.proofs.Common.{◌≡◌, ℕ, ◌+◌, Bool, true, false, ◌||◌, List, take, Some, ap, ◌∙◌, get_or}
use Rattle.std.specs.List.{list_any, slice_get}
use Rattle.std.proofs.lemmas.List.Folds.{list_any_more, list_any_at}
use Rattle.std.proofs.lemmas.Option.{slice_get_within, get_or_from_slice_get}

module _ {X : Type 0} (test : X → Bool) (xs : List X) (i : ℕ) (x : X) where
  pub none_more : slice_get xs i ≡ Some x → list_any test (take i xs) ≡ false → test x ≡ false → list_any test (take (i + 1) xs) ≡ false
  none_more is none fails =
      list_any_more test xs i x (slice_get_within xs i x is) ∙ ap (λ (b : Bool). b || test (get_or xs i x)) none ∙ ap test (get_or_from_slice_get xs i x x is) ∙ fails

  pub one_found : slice_get xs i ≡ Some x → test x ≡ true → list_any test xs ≡ true
  one_found is passes = list_any_at test xs i x (slice_get_within xs i x is) (ap test (get_or_from_slice_get xs i x x is) ∙ passes)
