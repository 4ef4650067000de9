-- What each call on cells does to each of their meanings.
use Rattle.std.specs.Prelude.{◌≡◌, ◌+◌, ◌≤◌, ◌⊎◌, List, Result, MatchResult}
use Rattle.off_defs.specs.Told.{Told}
use Rattle.off_defs.specs.Counts.{Grew, Tallied, one_more}
use Rattle.off_outside.specs.KeeperCalls.{keeper_faults_in}
use Rattle.off_outside.specs.declared.keeper.KeepErr.{KeepErr}
use Rattle.off_cells.specs.CellsSeen.{CellMap, CellsSeen}
use Rattle.off_cells.specs.CellWritten.{write_cells}
use Rattle.off_cells.specs.declared.writes.CellWrite.{CellWrite}

-- the cells were read: P holds of them, and they are told still
pub record CellsRead (P : CellMap → Type 0) (old new : CellsSeen) : Type 0 where
  pub cells : (m : CellMap) → old.cells m → new.cells m × P m
  pub up : old.up → new.up
  pub faults : new.faults ≡ old.faults

-- nothing was done: the cells are as before, and no fault was counted where memory was wanted
pub record CellsKept (err : KeepErr) (old new : CellsSeen) : Type 0 where
  pub cells : (m : CellMap) → old.cells m → new.cells m
  pub up : old.up → new.up ⊎ Grew 1 old.faults new.faults
  pub faults : Tallied (keeper_faults_in err) old.faults new.faults

-- what writes make of cells
abbrev pub AreWritten : List CellWrite → CellMap → CellMap → Type 0
AreWritten writes before after = after ≡ write_cells before writes

-- the writes were done, all of them
pub record CellsWritten (writes : List CellWrite) (old new : CellsSeen) : Type 0 where
  pub cells : Told old.cells new.cells (AreWritten writes)
  pub up : old.up → new.up
  pub faults : new.faults ≡ old.faults

-- a call that looks at the cells, and one that commits writes, by the answer
abbrev pub CellLooks : {A : Type 0} → Result A KeepErr → CellsSeen → CellsSeen →
    (A → CellMap → Type 0) → Type 0
CellLooks result old new P =
    MatchResult result (λ x. CellsRead (P x) old new) (λ err. CellsKept err old new)

abbrev pub CellCommits : Result (Unit {0}) KeepErr → CellsSeen → CellsSeen → List CellWrite → Type 0
CellCommits result old new writes =
    MatchResult result (λ _. CellsWritten writes old new) (λ err. CellsKept err old new)

-- the call was counted, whatever it answered
pub record CellCallCounted (old new : CellsSeen) : Type 0 where
  pub later : old.calls ≤ new.calls
  pub one : new.calls ≡ one_more old.calls

-- at most one call was made
pub record OneCellCall (old new : CellsSeen) : Type 0 where
  pub later : old.calls ≤ new.calls
  pub most : new.calls ≤ old.calls + 1
