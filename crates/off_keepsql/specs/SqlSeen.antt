-- What is seen of a keeper over cells.
use Rattle.std.specs.Prelude.{◌≡◌, ◌+◌, false}
use Rattle.off_defs.specs.State.{Tables}
use Rattle.off_outside.specs.KeeperSeen.{KeeperSeen}
use Rattle.off_cells.specs.CellsSeen.{CellMap, CellsSeen}
use Rattle.off_keepsql.specs.Stored.{Stores}
use Rattle.off_keepsql.specs.declared.counts.Counts.{Counts}

-- cells that are told store these tables
pub record StoredIn (seen : CellsSeen) (t : Tables) : Type 0 where
  pub cells : CellMap
  pub told : seen.cells cells
  pub stores : Stores cells t

-- It tells its tables where the cells are told and each of them is a key and a row. Its faults are
-- those of the cells and its own. It says nothing of a crash.
abbrev pub over : CellsSeen → Counts → KeeperSeen
over seen counts = record {
  tables = StoredIn seen;
  up = seen.up;
  faults = seen.faults + counts.own;
  calls = counts.calls;
  commits = counts.commits;
  moment = 0;
  opened = λ moment tables. ⊥;
  doubt = λ tables. ⊥;
  waits = false;
}

-- what a keeper tells that has just begun over cells
pub record SqlTells (seen : CellsSeen) (keeper : KeeperSeen) : Type 0 where
  pub tables : (t : Tables) → StoredIn seen t → keeper.tables t
  pub up : seen.up → keeper.up
  pub faults : keeper.faults ≡ seen.faults
  pub calls : keeper.calls ≡ 0
  pub commits : keeper.commits ≡ 0
