-- A record of four fields, field by field.
use Rattle.std.proofs.Common.{◌≡◌, ◌≤◌, ℕ, zero, suc, List, [], ◌∷◌, length, Some, None, arith}
use Rattle.csv.specs.Records.{field_at}

-- a field that isn't there tells that there are no more than before it
pub none_at : (fields : List (List ℕ)) (i : ℕ) → field_at fields i ≡ None → length fields ≤ i
unfolding field_at
none_at [] i e = omega arith
none_at (f ∷ fs) zero e = cc
none_at (f ∷ fs) (suc i) e = let h = none_at fs i e in omega arith

pub four_at : (fields : List (List ℕ)) (a b c d : List ℕ) → length fields ≡ 4
    → field_at fields 0 ≡ Some a → field_at fields 1 ≡ Some b → field_at fields 2 ≡ Some c → field_at fields 3 ≡ Some d
    → fields ≡ a ∷ b ∷ c ∷ d ∷ []
unfolding field_at
four_at (p ∷ q ∷ r ∷ s ∷ []) a b c d n ea eb ec ed = cc
four_at [] a b c d n ea eb ec ed = absurd (omega arith)
four_at (p ∷ []) a b c d n ea eb ec ed = absurd (omega arith)
four_at (p ∷ q ∷ []) a b c d n ea eb ec ed = absurd (omega arith)
four_at (p ∷ q ∷ r ∷ []) a b c d n ea eb ec ed = absurd (omega arith)
four_at (p ∷ q ∷ r ∷ s ∷ t ∷ more) a b c d n ea eb ec ed = absurd (omega arith)
