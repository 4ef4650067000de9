-- Tables that are stored in cells: a key's bytes are the key of a cell, and its row's bytes the
-- value.
use Rattle.std.specs.Prelude.{◌≡◌, ◌≢◌, Option, Some, None, List, [], ◌∷◌, map as each}
use Rattle.std.specs.FinMap as map
use Rattle.off_defs.specs.declared.keys.Key.{Key}
use Rattle.off_defs.specs.declared.tables.Row.{Row}
use Rattle.off_defs.specs.declared.writes.Write.{Write}
use Rattle.off_defs.specs.declared.writes.Write.TheVariants as write
use Rattle.off_defs.specs.State.{Tables}
use Rattle.off_rows.specs.KeyBytes.{key_bytes, IsRanged}
use Rattle.off_rows.specs.RowBytes.{row_bytes}
use Rattle.off_cells.specs.CellsSeen.{Cell, CellMap}
pub use Rattle.off_spelled.specs.Storable.{IsStorable, IsSpelled, AllSpelled}
use Rattle.off_cells.specs.declared.writes.CellWrite.{CellWrite}
use Rattle.off_cells.specs.declared.writes.CellWrite.TheVariants.{Put, Drop}

-- the cell of a key and its row
abbrev pub cell_of : Key × Row → Cell
cell_of entry = (key_bytes entry.0, row_bytes entry.1)

abbrev pub AllStorable : List (Key × Row) → Type 0
AllStorable [] = Unit {0}
AllStorable (entry ∷ entries) = IsStorable entry × AllStorable entries

-- these cells store these tables, and nothing else
pub record Stores (m : CellMap) (t : Tables) : Type 0 where
  pub cells : map.entries m ≡ each cell_of (map.entries t)
  pub storable : AllStorable (map.entries t)

-- a bad cell: it isn't a key and a row
abbrev pub IsBadCell : Cell → Type 0
IsBadCell cell = (entry : Key × Row) → IsStorable entry → cell_of entry ≢ cell

-- the cell that a call asks for is there, and is bad
abbrev pub MeetsBad : Option Cell → Type 0
MeetsBad None = ⊥
MeetsBad (Some cell) = IsBadCell cell

-- the write of a cell that a write of the tables is
abbrev pub cell_write : Write → CellWrite
cell_write (write.Put key row) = Put (key_bytes key) (row_bytes row)
cell_write (write.Drop key) = Drop (key_bytes key)

-- a place of a walk is a key of the program, if it is one
abbrev pub PlaceRanged : Option Key → Type 0
PlaceRanged None = Unit {0}
PlaceRanged (Some key) = IsRanged key
