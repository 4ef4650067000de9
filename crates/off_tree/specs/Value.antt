-- What a value has to be.
use Rattle.std.specs.Prelude.{ℕ, ◌+◌, ◌*◌, ◌==◌, ◌&&◌, Bool, true, false, not, nat_le, List, [], ◌∷◌, Option, Some, None}
use Rattle.off_tree.specs.declared.tables.Range.{Range}
use Rattle.off_tree.specs.declared.tables.Range.TheVariants.{Any, Number, Name}

-- a number of one or two bytes, big-endian
abbrev pub number : List ℕ → Option ℕ
number [] = None
number (a ∷ []) = Some a
number (a ∷ b ∷ []) = Some (a * 256 + b)
number (a ∷ b ∷ c ∷ more) = None

abbrev pub is_between : ℕ → ℕ → Option ℕ → Bool
is_between least most None = false
is_between least most (Some n) = nat_le least n && nat_le n most

-- a text: its last byte is 0, and no other byte
abbrev pub is_name : List ℕ → Bool
is_name [] = false
is_name (b ∷ []) = b == 0
is_name (b ∷ c ∷ bs) = not (b == 0) && is_name (c ∷ bs)

abbrev pub in_range : Range → List ℕ → Bool
in_range Any value = true
in_range (Number least most) value = is_between least most (number value)
in_range Name value = is_name value
