-- Which rows and writes have a spelling that can be read back.
use Rattle.std.specs.Prelude.{List, [], ◌∷◌}
use Rattle.off_defs.specs.declared.keys.Key.{Key}
use Rattle.off_defs.specs.declared.tables.Row.{Row}
use Rattle.off_defs.specs.declared.writes.Write.{Write}
use Rattle.off_defs.specs.declared.writes.Write.TheVariants as write
use Rattle.off_rows.specs.KeyBytes.{IsRanged}
use Rattle.off_rows.specs.RowBytes.{IsRowOf}

-- a key and a row that can be stored: the row is of the key's kind, and its values and settings can
-- be read back
pub record IsStorable (entry : Key × Row) : Type 0 where
  pub key : IsRanged entry.0
  pub row : IsRowOf entry.0 entry.1

-- whether a write has a spelling; one without is a bad write
abbrev pub IsSpelled : Write → Type 0
IsSpelled (write.Put key row) = IsStorable (key, row)
IsSpelled (write.Drop key) = IsRanged key

abbrev pub AllSpelled : List Write → Type 0
AllSpelled [] = Unit {0}
AllSpelled (write ∷ writes) = IsSpelled write × AllSpelled writes
