-- What a call of a keeper over cells does to its own count of faults.
use Rattle.std.specs.Prelude.{◌≡◌, ◌≢◌, ℕ, ◌≤◌, ◌⊎◌, Option, List, map as each, Result, Ok, Err}
use Rattle.std.specs.Option.{option_map}
use Rattle.off_defs.specs.declared.keys.Key.{Key}
use Rattle.off_defs.specs.declared.tables.Row.{Row}
use Rattle.off_defs.specs.declared.writes.Write.{Write}
use Rattle.off_defs.specs.Counts.{Grew, one_more, most_count}
use Rattle.off_rows.specs.KeyBytes.{key_bytes}
use Rattle.off_rows.specs.RowBytes.{row_bytes, IsRowOf}
use Rattle.off_outside.specs.declared.keeper.KeepErr.{KeepErr}
use Rattle.off_outside.specs.declared.keeper.KeepErr.TheVariants.{Memory, Failed}
use Rattle.off_cells.specs.CellsSeen.{Cell, CellMap, CellsSeen, cell_at, next_cell}
use Rattle.off_keepsql.specs.Stored.{IsStorable, cell_of, IsBadCell, MeetsBad, cell_write, IsSpelled, AllSpelled}
use Rattle.off_rows.specs.declared.faults.RowErr.{RowErr}
use Rattle.off_rows.specs.declared.faults.RowErr.TheVariants as row_err
use Rattle.off_cells.specs.declared.writes.CellWrite.{CellWrite}

-- the cell that `get` asks for, and the one that `next` does
abbrev pub asked_at : Key → CellMap → Option Cell
asked_at key cells = option_map (λ val. (key_bytes key, val)) (cell_at cells (key_bytes key))

abbrev pub asked_behind : Option Key → CellMap → Option Cell
asked_behind place cells = next_cell (option_map key_bytes place) cells

-- a fault was counted
abbrev pub CountsOne : ℕ → ℕ → Type 0
CountsOne old new = (new ≡ one_more old) × (old ≤ most_count)

-- a fault was counted for a bad cell, or none was
abbrev pub CountsBad : Option Cell → ℕ → ℕ → Type 0
CountsBad asked old new = (new ≡ old) ⊎ (MeetsBad asked × (new ≡ one_more old))

-- of a call that asks for a cell: an answer means that the cell isn't bad, and counts nothing
abbrev pub OwnAsked : {A : Type 0} → Result A KeepErr → Option Cell → ℕ → ℕ → Type 0
OwnAsked (Ok x) asked old new = (¬ MeetsBad asked) × (new ≡ old)
OwnAsked (Err err) asked old new = CountsBad asked old new

-- of a commit: it is done only where each write is spelled, and then counts nothing
abbrev pub OwnCommitted : Result (Unit {0}) KeepErr → List Write → ℕ → ℕ → Type 0
OwnCommitted (Ok x) writes old new = AllSpelled writes × (new ≡ old)
OwnCommitted (Err err) writes old new = (new ≡ old) ⊎ ((¬ AllSpelled writes) × (new ≡ one_more old))

-- a failed call has raised the count of the cells or the own one
abbrev pub HasCause : KeepErr → CellsSeen → CellsSeen → ℕ → ℕ → Type 0
HasCause Memory old new own_before own_after = Unit {0}
HasCause Failed old new own_before own_after =
    Grew 1 old.faults new.faults ⊎ Grew 1 own_before own_after

abbrev pub FailsByCause : {A : Type 0} → Result A KeepErr → CellsSeen → CellsSeen → ℕ → ℕ → Type 0
FailsByCause (Ok x) old new own_before own_after = Unit {0}
FailsByCause (Err err) old new own_before own_after = HasCause err old new own_before own_after

-- what is made of the bytes under a key
abbrev pub RowRead : Result Row KeepErr → Key → List ℕ → ℕ → ℕ → Type 0
RowRead (Ok row) key val old new = IsRowOf key row × (row_bytes row ≡ val) × (new ≡ old)
RowRead (Err Memory) key val old new = new ≡ old
RowRead (Err Failed) key val old new =
    ((row : Row) → IsRowOf key row → row_bytes row ≢ val) × CountsOne old new

-- what is made of a cell
abbrev pub EntryRead : Result (Key × Row) KeepErr → Cell → ℕ → ℕ → Type 0
EntryRead (Ok entry) cell old new = IsStorable entry × (cell_of entry ≡ cell) × (new ≡ old)
EntryRead (Err Memory) cell old new = new ≡ old
EntryRead (Err Failed) cell old new = IsBadCell cell × CountsOne old new

-- why bytes aren't read: no row has them, and a fault is counted, or memory was wanted
abbrev pub Refuses : RowErr → KeepErr → ℕ → ℕ → Type 0
Refuses row_err.Memory err old new = (err ≡ Memory) × (new ≡ old)
Refuses (row_err.BadRow place) err old new = (err ≡ Failed) × CountsOne old new

-- what is made of a write, and of all of them
abbrev pub WriteSpelled : Result CellWrite KeepErr → Write → ℕ → ℕ → Type 0
WriteSpelled (Ok spelled) write old new =
    IsSpelled write × (spelled ≡ cell_write write) × (new ≡ old)
WriteSpelled (Err Memory) write old new = new ≡ old
WriteSpelled (Err Failed) write old new = (¬ IsSpelled write) × CountsOne old new

abbrev pub WritesSpelled : Result (List CellWrite) KeepErr → List Write → ℕ → ℕ → Type 0
WritesSpelled (Ok spelled) writes old new =
    AllSpelled writes × (spelled ≡ each cell_write writes) × (new ≡ old)
WritesSpelled (Err Memory) writes old new = new ≡ old
WritesSpelled (Err Failed) writes old new = (¬ AllSpelled writes) × CountsOne old new
