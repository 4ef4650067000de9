-- Rows of an import, one by one.
use Rattle.std.proofs.Common.{◌≡◌, ℕ, ◌+◌, Bool, true, false, List, take, Some, ap, ◌∙◌}
use Rattle.std.specs.List.{list_all, slice_get}
use Rattle.std.proofs.lemmas.Option.{slice_get_within, get_or_from_slice_get}
use Rattle.std.proofs.lemmas.List.Folds.{list_all_more, list_all_at}

pub all_more : {X : Type 0} (p : X → Bool) (xs : List X) (i : ℕ) (x : X) → slice_get xs i ≡ Some x → list_all p (take i xs) ≡ true → p x ≡ true → list_all p (take (i + 1) xs) ≡ true
all_more p xs i x e before one =
    let here = ap p (get_or_from_slice_get xs i x x e) in
    let more = list_all_more p xs i x (slice_get_within xs i x e) in
    cc

pub one_fails : {X : Type 0} (p : X → Bool) (xs : List X) (i : ℕ) (x : X) → slice_get xs i ≡ Some x → p x ≡ false → list_all p xs ≡ false
one_fails p xs i x e one = list_all_at p xs i x (slice_get_within xs i x e) (ap p (get_or_from_slice_get xs i x x e) ∙ one)
