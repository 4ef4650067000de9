-- Lists of bytes that are equal are so part by part, and so are the numbers that they spell.
use Rattle.std.proofs.Common.{◌≡◌, ℕ, ◌<◌, ◌^◌, List, [], ◌∷◌, ◌++◌, length, refl, sym, ap, ◌∙◌, arith}
use Rattle.std.specs.Int.{to_be_bytes, from_be_bytes, w32}
use Rattle.std.proofs.lemmas.Nat.{from_be_bytes-to_be_bytes_4}

pub same_parts : (v w r s : List ℕ) → length v ≡ length w → v ++ r ≡ w ++ s → (v ≡ w) × (r ≡ s)
same_parts [] [] r s n e = (refl, e)
same_parts [] (y ∷ w) r s n e = absurd (omega arith)
same_parts (x ∷ v) [] r s n e = absurd (omega arith)
same_parts (x ∷ v) (y ∷ w) r s n e =
    let rest : v ++ r ≡ w ++ s = cc in
    let long : length v ≡ length w = omega arith in
    let head : x ≡ y = cc in
    let more = same_parts v w r s long rest in
    let front : v ≡ w = more.0 in
    (cc, more.1)

pub heads : {A : Type 0} (x y : A) (s t : List A) → x ∷ s ≡ y ∷ t → x ≡ y
heads x y s t e = cc

pub tails : {A : Type 0} (x y : A) (s t : List A) → x ∷ s ≡ y ∷ t → s ≡ t
tails x y s t e = cc

pub same_word : (m n : ℕ) → m < 2 ^ 32 → n < 2 ^ 32 → to_be_bytes w32 m ≡ to_be_bytes w32 n → m ≡ n
same_word m n p q e = sym (from_be_bytes-to_be_bytes_4 m p) ∙ (ap (from_be_bytes w32) e ∙ from_be_bytes-to_be_bytes_4 n q)
