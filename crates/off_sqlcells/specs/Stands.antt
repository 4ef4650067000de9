-- When a connection tells cells.
use Rattle.std.specs.Prelude.{◌≡◌, false, List, [], IsTrue}
use Rattle.sqlite_trees.specs.declared.store.Store.{Ghosts}
use Rattle.sqlite_trees.specs.View.{IsClean}
use Rattle.sqlite.specs.Effect.{Database}
use Rattle.sqlite.specs.State.{State}
use Rattle.off_cells.specs.CellsSeen.{CellMap}
use Rattle.off_cells.specs.CellWritten.{write_cells}
use Rattle.off_cells.specs.declared.writes.CellWrite.{CellWrite}
use Rattle.off_sqlcells.specs.Office.{no_schema, office_schema, IsOurs}
use Rattle.off_sqlcells.specs.Holds.{Holds}

-- Nobody else writes the store, and it returns what was written, over each call.
abbrev pub IsSteady : {S : Type 0} → Ghosts S → Type 0
IsSteady {S} g = (s : S) → IsClean (g.view s)

-- the table is there and holds the cells, all of them committed
pub record Stands (s : State) (m : CellMap) : Type 0 where
  pub schema : s.now.schema ≡ office_schema
  pub rows : Holds (s.now.trees 0) m
  pub settled : s.now ≡ s.committed
  pub idle : s.in_transaction ≡ false

-- A connection that a fault has shut says nothing of its table, and so tells any cells; no call of
-- it answers `Ok` any more.
abbrev pub Tells : State → CellMap → Type 0
Tells s m = IsTrue s.is_open → Stands s m

-- within a transaction: the table as it stands in it, and what was committed before
pub record Inside (base : Database) (s : State) (m : CellMap) : Type 0 where
  pub schema : s.now.schema ≡ office_schema
  pub rows : Holds (s.now.trees 0) m
  pub kept : s.committed ≡ base
  pub inside : IsTrue s.in_transaction

abbrev pub Within : Database → State → CellMap → Type 0
Within base s m = IsTrue s.is_open → Inside base s m

-- what was committed before a transaction that has failed
abbrev pub IsBased : Database → State → Type 0
IsBased base s = IsTrue s.is_open → s.committed ≡ base

-- ---- what a call does

-- what was told is told still
abbrev pub StillTells : State → State → Type 0
StillTells old new = (m : CellMap) → Tells old m → Tells new m

-- the cells were read: P holds of them; the connection is open
pub record Looked (old new : State) (P : CellMap → Type 0) : Type 0 where
  pub told : (m : CellMap) → Tells old m → Tells new m × P m
  pub opened : IsTrue new.is_open

-- the writes were done, all of them, and the connection is open
pub record Wrote (writes : List CellWrite) (old new : State) : Type 0 where
  pub told : (m : CellMap) → Tells old m → Tells new (write_cells m writes)
  pub opened : IsTrue new.is_open

-- a call within a transaction commits nothing, and doesn't open what is shut
pub record Stays (old new : State) : Type 0 where
  pub was_open : IsTrue new.is_open → IsTrue old.is_open
  pub based : (base : Database) → IsBased base old → IsBased base new

-- The table is there: it was made, and has no rows, where the database had no table; or nothing was
-- done, where it had this one.
pub record Makes (old new : State) : Type 0 where
  pub made : old.now.schema ≡ no_schema
      → (new.now.schema ≡ office_schema) × (new.now.trees 0 ≡ []) × IsTrue new.is_open
  pub found : old.now.schema ≡ office_schema → (new.now ≡ old.now) × IsTrue new.is_open
  pub mode : IsOurs old.now.schema → new.in_transaction ≡ old.in_transaction
