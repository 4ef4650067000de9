-- Which cells store tables.
use Rattle.std.specs.Prelude.{◌≡◌, List, [], ◌∷◌}
use Rattle.std.specs.FinMap as map
use Rattle.off_defs.specs.declared.keys.Key.{Key}
use Rattle.off_defs.specs.declared.tables.Row.{Row}
use Rattle.off_defs.specs.State.{Tables}
use Rattle.off_cells.specs.CellsSeen.{Cell, CellMap}
use Rattle.off_keepsql.specs.Stored.{IsStorable, cell_of, Stores}

-- a cell that is a key and a row
pub record IsEntry (cell : Cell) : Type 0 where
  pub entry : Key × Row
  pub storable : IsStorable entry
  pub same : cell_of entry ≡ cell

abbrev pub AllAreEntries : List Cell → Type 0
AllAreEntries [] = Unit {0}
AllAreEntries (cell ∷ cells) = IsEntry cell × AllAreEntries cells

-- cells of which each is a key and a row store tables
abbrev pub EntriesAreTables : Type 0
EntriesAreTables = (m : CellMap) → AllAreEntries (map.entries m) → (t : Tables) × Stores m t

-- and where one isn't, they store none
abbrev pub TablesAreEntries : Type 0
TablesAreEntries = (m : CellMap) (t : Tables) → Stores m t → AllAreEntries (map.entries m)
