-- The bytes of a key in place: 1 to 9 bytes, and zeros behind them to nine. The bytes without the
-- zeros give all of them back.
use Rattle.std.specs.Prelude.{◌≡◌, ℕ, ◌≤◌, ◌-◌, List, ◌++◌, length, take, drop, replicate}
use Rattle.std.proofs.Common.{arith, ap, sym, ◌∙◌, take-append-drop, length-take-le}

abbrev pub IsPadded : List ℕ → ℕ → Type 0
IsPadded bytes len =
    (1 ≤ len) × (len ≤ 9) × (length bytes ≡ 9) × (drop len bytes ≡ replicate (9 - len) 0)

pub length_back : (bytes : List ℕ) (len : ℕ) → IsPadded bytes len → length (take len bytes) ≡ len
length_back bytes len padded = length-take-le len bytes (omega (arith, padded.1, padded.2))

pub bytes_back : (bytes : List ℕ) (len : ℕ) → IsPadded bytes len →
    take len bytes ++ replicate (9 - length (take len bytes)) 0 ≡ bytes
bytes_back bytes len padded =
    ap (λ (n : ℕ). take len bytes ++ replicate (9 - n) 0) (length_back bytes len padded) ∙ ap
    (λ (xs : List ℕ). take len bytes ++ xs) (sym padded.3) ∙ take-append-drop len bytes
