-- How many shelves writes may take out of the stock: one for each row that is put.
use Rattle.std.specs.Prelude.{ℕ, Bool, true, false, List, count_by}
use Rattle.off_defs.specs.declared.writes.Write.{Write}
use Rattle.off_defs.specs.declared.writes.Write.TheVariants.{Put, Drop}

-- how many of the writes put a row
abbrev pub is_put : Write → Bool
is_put (Put key row) = true
is_put (Drop key) = false

abbrev pub puts_in : List Write → ℕ
puts_in writes = count_by is_put writes
