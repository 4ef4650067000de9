-- What a keeper tells that has just begun over a connection to a database.
use Rattle.std.specs.Prelude.{◌≡◌, List, IsTrue}
use Rattle.std.specs.FinMap as map
use Rattle.sqlite_disk.specs.declared.Disk as disk
use Rattle.sqlite_value.specs.Order.{Row}
use Rattle.sqlite_trees.specs.declared.store.Store.{Ghosts}
use Rattle.sqlite.specs.Files.{over_files, file_state, IsOpened}
use Rattle.sqlite.specs.Held.{Held, state}
use Rattle.sqlite.specs.State.{HasCleanDisk}
use Rattle.sqlite_store.specs.declared.store.FileStore.{FileStore}
use Rattle.off_defs.specs.State.{Tables}
use Rattle.off_outside.specs.KeeperSeen.{KeeperSeen}
use Rattle.off_cells.specs.CellsSeen.{CellMap, CellsSeen}
use Rattle.off_sqlcells.specs.Office.{no_schema, office_schema}
use Rattle.off_sqlcells.specs.Holds.{AreCells}
use Rattle.off_sqlcells.specs.SqlCellsSeen.{HasBegun}
use Rattle.off_sqlcells.specs.Stands.{IsSteady}
use Rattle.off_keepsql.specs.Stored.{Stores}

-- What is told of a table that was there: its rows are cells, and the tables that these store are
-- told, if they store any.
pub record FoundTables (table : List Row) (seen : KeeperSeen) : Type 0 where
  pub cells : CellMap
  pub are : AreCells table cells
  pub told : (t : Tables) → Stores cells t → seen.tables t
  pub up : seen.up

-- Over a steady store it tells empty tables, where the database had no table; and where it had the
-- table `office`, the tables that its rows store. Its cells have begun over the connection, so they
-- are the rows that were there, also those that aren't a key and a row.
pub record KeeperBegins {S : Type 0} (g : Ghosts S) (conn : Held S) (cells : CellsSeen)
    (seen : KeeperSeen) : Type 0 where
  pub begun : HasBegun g conn cells
  pub made : IsSteady g → (state g conn).now.schema ≡ no_schema → seen.tables map.empty × seen.up
  pub found : IsSteady g → (state g conn).now.schema ≡ office_schema
      → FoundTables ((state g conn).now.trees 0) seen
  pub faults : seen.faults ≡ 0
  pub calls : seen.calls ≡ 0
  pub commits : seen.commits ≡ 0

-- A keeper over files: it has begun over a connection that was opened.
pub record BeginsOverFiles {D : Type 0} (g : disk.Ghosts D) (cells : CellsSeen)
    (seen : KeeperSeen) : Type 0 where
  pub conn : Held (FileStore D g)
  pub opened : HasCleanDisk (file_state conn) → IsOpened conn
  pub begun : KeeperBegins (over_files {D = D} {g = g}) conn cells seen

-- A keeper that has no rows, and has had no calls.
pub record TellsNone (seen : KeeperSeen) : Type 0 where
  pub tables : seen.tables map.empty
  pub up : seen.up
  pub faults : seen.faults ≡ 0
  pub calls : seen.calls ≡ 0
  pub commits : seen.commits ≡ 0

-- a store of files is steady over a disk that returns what was written, over each call
abbrev pub HonestFilesAreSteady : {D : Type 0} → disk.Ghosts D → Type 0
HonestFilesAreSteady {D} g =
    ((d : D) → IsTrue (g.is_clean d)) → IsSteady (over_files {D = D} {g = g})
