-- What the private functions that count bytes say.
use Rattle.std.specs.Prelude.{ℕ, ◌-◌, ◌^◌, min, length}
use Rattle.off_base.specs.Tree.{Tree, leaf, group, row_length}

abbrev pub at_most_u32 : ℕ → ℕ
at_most_u32 n = min n (2 ^ 32 - 1)

-- the bytes of a value, or of a group's spelled parts
abbrev pub value_length : Tree → ℕ
value_length (leaf code value) = length value
value_length (group code parts) = row_length parts
