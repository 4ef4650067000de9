-- Numbers as a command line, a path and a table of rows have them: 1 to 20 decimal digits in ASCII,
-- without a sign.
use Rattle.std.specs.Prelude.{ℕ, ◌+◌, ◌-◌, ◌*◌, ◌^◌, Bool, ◌&&◌, List, [], ◌∷◌, length, nat_lt, nat_le, Option, Some, None, if◌then◌else◌}
use Rattle.std.specs.Str.{all_ascii_digits}

-- the greatest number of 64 bits, at which counts and sums stop
abbrev pub greatest_u64 : ℕ
greatest_u64 = 2 ^ 64 - 1

-- the number that decimal digits spell: each digit has the weight of its place
abbrev pub number_of : List ℕ → ℕ
number_of [] = 0
number_of (c ∷ cs) = (c - 48) * 10 ^ length cs + number_of cs

-- a text of 1 to 20 decimal digits
abbrev pub is_number_text : List ℕ → Bool
is_number_text text = nat_lt 0 (length text) && (nat_le (length text) 20 && all_ascii_digits text)

-- the number of a text that has this form and spells no more than `most`
unfoldable pub number_read : ℕ → List ℕ → Option ℕ
number_read most text =
    if (is_number_text text && nat_le (number_of text) most) then Some (number_of text) else None
