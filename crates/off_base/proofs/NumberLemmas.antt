-- The number of a text, tied to std's digits, and how a loop over the digits stands to it.
use Rattle.std.proofs.Common.{◌≡◌, ℕ, ◌+◌, ◌-◌, ◌*◌, ◌<◌, ◌≤◌, Bool, true, false, List, length, take, get_or, nat_le, Some, None, refl, arith, rules}
use Rattle.std.specs.Str.{all_ascii_digits}
use Rattle.std.specs.Str.Parse.{AllDigits, digits_value}
use Rattle.std.specs.Int.{IsInRange}
use Rattle.std.specs.Char.{digit_value}
use Rattle.std.proofs.lemmas.Str.{digit_value_digit}
use Rattle.std.proofs.lemmas.Str.Parse.{IsNumeralModel, numerals_by_weight, tells_all_ascii_digits, digit_at, digits_value-take-le}
use Rattle.std.proofs.lemmas.Int.Digits.{digits_value_more, digits_more}
use Rattle.std.proofs.lemmas.Bool.Decides.{nat_tests}
use Rattle.off_base.specs.Number.{number_of, number_read}

pub number_model : IsNumeralModel (λ ds. all_ascii_digits ds ≡ true) number_of
number_model = numerals_by_weight _ tells_all_ascii_digits number_of (search rules)

-- a text whose digits, if it has nothing else, spell too much is no number
none_unless : (most : ℕ) (text : List ℕ) (b : Bool) → all_ascii_digits text ≡ b → (all_ascii_digits text ≡ true → most < number_of text) → number_read most text ≡ None
unfolding number_read
none_unless most text true e over =
    let big : most < number_of text = over e in
    let no : nat_le (number_of text) most ≡ false = grind (arith, nat_tests) in
    grind (arith, nat_tests)
none_unless most text false e over = grind (arith, nat_tests)

pub number_read_empty : (most : ℕ) (text : List ℕ) → length text ≡ 0 → number_read most text ≡ None
unfolding number_read
number_read_empty most text none = grind (arith, nat_tests)

pub number_read_long : (most : ℕ) (text : List ℕ) → 20 < length text → number_read most text ≡ None
unfolding number_read
number_read_long most text long = grind (arith, nat_tests)

-- the next byte is no digit, or with it the number is over `most`
pub number_read_stops : (most i n : ℕ) (text : List ℕ) → i < length text → n ≡ digits_value 10 (take i text)
    → ((48 ≤ get_or text i 0) × (get_or text i 0 ≤ 57) × (n * 10 + (get_or text i 0 - 48) ≤ most) → ⊥)
    → number_read most text ≡ None
number_read_stops most i n text at so_far stops =
    none_unless most text (all_ascii_digits text) refl (λ all.
    let digits : AllDigits 10 text = number_model.to text all in
    let range : IsInRange 48 57 (get_or text i 0) = digit_at text i digits at in
    let value : digit_value (get_or text i 0) + 48 ≡ get_or text i 0 = digit_value_digit _ range in
    let front : digits_value 10 (take (i + 1) text) ≤ digits_value 10 text = digits_value-take-le 10 text (i + 1) (omega arith) in
    let next = digits_value_more 10 text i at in
    let same : number_of text ≡ digits_value 10 text = number_model.same text digits in
    let over : n * 10 + (get_or text i 0 - 48) ≤ most → ⊥ = λ small. stops (range.0, range.1, small) in
    omega (arith, over))

-- one more digit
pub number_steps : (i n next : ℕ) (text : List ℕ) → i < length text → AllDigits 10 (take i text) → n ≡ digits_value 10 (take i text)
    → 48 ≤ get_or text i 0 → get_or text i 0 ≤ 57 → next ≡ n * 10 + (get_or text i 0 - 48)
    → AllDigits 10 (take (i + 1) text) × (next ≡ digits_value 10 (take (i + 1) text))
number_steps i n next text at digits so_far low high is =
    let value : digit_value (get_or text i 0) + 48 ≡ get_or text i 0 = digit_value_digit _ (low, high) in
    let more = digits_value_more 10 text i at in
    (digits_more 10 text i at digits (omega arith), omega arith)

pub number_read_all : (most n : ℕ) (text : List ℕ) → 0 < length text → length text ≤ 20 → AllDigits 10 text → n ≡ digits_value 10 text → n ≤ most
    → number_read most text ≡ Some n
unfolding number_read
number_read_all most n text some few digits is small =
    let all : all_ascii_digits text ≡ true = number_model.from text digits in
    let same : number_of text ≡ digits_value 10 text = number_model.same text digits in
    grind (arith, nat_tests)
