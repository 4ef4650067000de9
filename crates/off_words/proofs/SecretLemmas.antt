-- A secret in hexadecimal pairs.
use Rattle.std.proofs.Common.{◌≡◌, ℕ, ◌<◌, ◌≤◌, ◌/◌, List, ◌++◌, length, take, Option, Some, None, Ok, MatchOption, sym, ap, ◌∙◌, arith}
use Rattle.std.proofs.lemmas.Bool.Decides.{nat_tests}
use Rattle.std.proofs.Math.Seq.{take-append_seam}
use Rattle.std.specs.Result.{result_ok}
use Rattle.hex.specs.Hex.{decode_of, decode_sized}
use Rattle.off_book.specs.Words.{secret_of}

pub secret_empty : (text : List ℕ) → length text ≡ 0 → secret_of text ≡ None
unfolding secret_of
secret_empty text none = grind (arith, nat_tests)

pub secret_long : (text : List ℕ) → 128 < length text → secret_of text ≡ None
unfolding secret_of
secret_long text long = grind (arith, nat_tests)

pub secret_fits : (text : List ℕ) → 0 < length text → length text ≤ 128 → secret_of text ≡ result_ok (decode_of text)
unfolding secret_of
secret_fits text some few = grind (arith, nat_tests)

-- room for half as many bytes is room enough
pub sized_is : (text : List ℕ) (n : ℕ) → n ≡ length text / 2 → decode_sized text n ≡ decode_of text
sized_is text n half = grind (arith, nat_tests)

pub secret_kept : (text room held : List ℕ) (r : Option (List ℕ)) → secret_of text ≡ result_ok (decode_of text) → decode_of text ≡ Ok room → held ≡ room → length room ≤ 64
    → MatchOption r (64 < length held) (λ s. (s ≡ held) × (length held ≤ 64)) → r ≡ secret_of text
secret_kept text room held None fits is same short over = absurd (omega (arith, over, ap length same))
secret_kept text room held (Some s) fits is same short kept = ap (λ v. Some v) (kept.0 ∙ same) ∙ (ap result_ok (sym is) ∙ sym fits)

-- the front of a list that was written
pub front_is : (n : ℕ) (front rest : List ℕ) → length front ≡ n → take n (front ++ rest) ≡ front
front_is n front rest long = ap (λ k. take k (front ++ rest)) (sym long) ∙ take-append_seam front rest
