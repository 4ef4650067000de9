-- What is seen of the cells of a table.
use Rattle.std.specs.Prelude.{◌≡◌, ℕ, ◌≤◌, List, IsTrue}
use Rattle.std.specs.FinMap as map
use Rattle.sqlite_value.specs.Order.{Row}
use Rattle.sqlite_trees.specs.declared.store.Store.{Ghosts}
use Rattle.sqlite.specs.Held.{Held, state}
use Rattle.sqlite.specs.State.{State}
use Rattle.off_defs.specs.Counts.{one_more, most_count}
use Rattle.off_defs.specs.Told.{IsOne}
use Rattle.off_outside.specs.declared.keeper.KeepErr.{KeepErr}
use Rattle.off_outside.specs.declared.keeper.KeepErr.TheVariants.{Memory, Failed}
use Rattle.off_cells.specs.CellsSeen.{CellMap, CellsSeen}
use Rattle.off_sqlcells.specs.Office.{no_schema, office_schema, IsOurs}
use Rattle.off_sqlcells.specs.Holds.{AreCells}
use Rattle.off_sqlcells.specs.Stands.{IsSteady, Tells}
use Rattle.off_sqlcells.specs.OneMap.{one_told}

-- Over a steady store they tell the cells that the rows of the table hold. They are up as long as
-- no fault has shut the connection.
abbrev pub sql_seen : {S : Type 0} → Ghosts S → Held S → ℕ → ℕ → CellsSeen
sql_seen g conn faults calls = record {
  cells = λ m. IsSteady g × Tells (state g conn) m;
  up = IsSteady g × IsTrue (state g conn).is_open;
  faults = faults;
  calls = calls;
}

pub one_sql : {A : Type 0} {s : State} → IsTrue s.is_open → IsOne (λ (m : CellMap). A × Tells s m)
one_sql {A} {s} up m n p q = one_told s m n up p.1 q.1

-- why a call wasn't done: want of memory over a connection that is open, or a fault, which is
-- counted
abbrev pub Counts : {S : Type 0} → Ghosts S → Held S → KeepErr → ℕ → ℕ → Type 0
Counts g conn Memory before after = (after ≡ before) × (IsSteady g → IsTrue (state g conn).is_open)
Counts g conn Failed before after = (after ≡ one_more before) × (before ≤ most_count)

-- The cells of a table that was there: all that its rows are, whatever their keys and values.
pub record Found (table : List Row) (seen : CellsSeen) : Type 0 where
  pub cells : CellMap
  pub are : AreCells table cells
  pub told : seen.cells cells
  pub up : seen.up

-- Cells that have just begun over a connection. The database was the office's: where it had no
-- table there are none, and where it had this table, they are those that its rows are. Nothing is
-- counted.
pub record HasBegun {S : Type 0} (g : Ghosts S) (conn : Held S) (seen : CellsSeen) : Type 0 where
  pub ours : IsOurs (state g conn).now.schema
  pub made : IsSteady g → (state g conn).now.schema ≡ no_schema → seen.cells map.empty × seen.up
  pub found : IsSteady g → (state g conn).now.schema ≡ office_schema
      → Found ((state g conn).now.trees 0) seen
  pub faults : seen.faults ≡ 0
  pub calls : seen.calls ≡ 0
