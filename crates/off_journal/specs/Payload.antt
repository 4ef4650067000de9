-- A payload: the writes of a commit, joined.
use Rattle.std.specs.Prelude.{ℕ, List, [], ◌∷◌, ◌++◌, length}
use Rattle.std.specs.Int.{to_be_bytes, w32}
use Rattle.off_defs.specs.declared.tables.Row.{Row}
use Rattle.off_defs.specs.declared.writes.Write.{Write}
use Rattle.off_defs.specs.declared.writes.Write.TheVariants as write
use Rattle.off_rows.specs.KeyBytes.{key_bytes}
use Rattle.off_rows.specs.RowBytes.{counted, row_bytes}

-- a row's length in four bytes, and its bytes
abbrev pub put_row : Row → List ℕ
put_row row = to_be_bytes w32 (length (row_bytes row)) ++ row_bytes row

-- 1 for a put and 2 for a drop, the key's length in one byte and its bytes, and for a put the row's
-- length in four bytes and its bytes
abbrev pub write_bytes : Write → List ℕ
write_bytes (write.Put key row) =
    1 ∷ (counted (key_bytes key) ++ put_row row)
write_bytes (write.Drop key) = 2 ∷ counted (key_bytes key)

abbrev pub payload_of : List Write → List ℕ
payload_of [] = []
payload_of (write ∷ writes) = write_bytes write ++ payload_of writes
