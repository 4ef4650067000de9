-- Cells in memory: what they tell, and exactly what each call makes of them.
use Rattle.std.specs.Prelude.{◌≡◌, ℕ, ◌≤◌, List, Result, MatchResult}
use Rattle.std.specs.FinMap as map
use Rattle.off_defs.specs.Counts.{one_more, most_count}
use Rattle.off_outside.specs.InMemory.{CallsHeld, one_called, IsToFail}
use Rattle.off_outside.specs.declared.keeper.KeepErr.{KeepErr}
use Rattle.off_outside.specs.declared.keeper.KeepErr.TheVariants.{Memory, Failed}
use Rattle.off_cells.specs.CellsSeen.{CellMap, CellsSeen}
use Rattle.off_cells.specs.CellWritten.{write_cells}
use Rattle.off_cells.specs.SortedCells.{MemCellsHeld}
use Rattle.off_cells.specs.declared.writes.CellWrite.{CellWrite}

-- they tell their cells, and are always up
abbrev pub mem_seen : MemCellsHeld → CellsSeen
mem_seen m =
    record {
      cells = λ cells. cells ≡ m.cells;
      up = Unit {0};
      faults = m.faults;
      calls = m.calls.made;
    }

-- what is seen of them is all that they hold
pub record MemCellsTell (m : MemCellsHeld) (seen : CellsSeen) : Type 0 where
  pub cells : seen.cells m.cells
  pub up : seen.up
  pub faults : seen.faults ≡ m.faults
  pub calls : seen.calls ≡ m.calls.made

-- new ones are empty
pub record AreNew (fails : List ℕ) (m : MemCellsHeld) : Type 0 where
  pub cells : m.cells ≡ map.empty
  pub calls : m.calls ≡ record { listed = fails; made = 0 }
  pub faults : m.faults ≡ 0

-- the cells are read where the call isn't listed
pub record MemCellsRead (old new : MemCellsHeld) : Type 0 where
  pub unlisted : ¬ (IsToFail old.calls)
  pub fits : old.calls.made ≤ most_count
  pub cells : new.cells ≡ old.cells
  pub calls : new.calls ≡ one_called old.calls
  pub faults : new.faults ≡ old.faults

-- all writes are done where the call isn't listed
pub record MemCellsWritten (writes : List CellWrite) (old new : MemCellsHeld) : Type 0 where
  pub unlisted : ¬ (IsToFail old.calls)
  pub fits : old.calls.made ≤ most_count
  pub cells : new.cells ≡ write_cells old.cells writes
  pub calls : new.calls ≡ one_called old.calls
  pub faults : new.faults ≡ old.faults

-- a listed call fails, and no other
abbrev pub IsCellCause : KeepErr → CallsHeld → Type 0
IsCellCause Memory calls = ¬ (IsToFail calls)
IsCellCause Failed calls = IsToFail calls

abbrev pub cell_faults_after : KeepErr → ℕ → ℕ
cell_faults_after Memory faults = faults
cell_faults_after Failed faults = one_more faults

pub record MemCellsKept (err : KeepErr) (old new : MemCellsHeld) : Type 0 where
  pub cause : IsCellCause err old.calls
  pub calls_fit : old.calls.made ≤ most_count
  pub fits : old.faults ≤ most_count
  pub cells : new.cells ≡ old.cells
  pub calls : new.calls ≡ one_called old.calls
  pub faults : new.faults ≡ cell_faults_after err old.faults

-- what each call does, by the answer
abbrev pub MemCellLooks : {A : Type 0} → Result A KeepErr → MemCellsHeld → MemCellsHeld →
    (A → CellMap → Type 0) → Type 0
MemCellLooks result old new P =
    MatchResult result (λ x. P x old.cells × MemCellsRead old new) (λ err. MemCellsKept err old new)

abbrev pub MemCellCommits : Result (Unit {0}) KeepErr → MemCellsHeld → MemCellsHeld →
    List CellWrite → Type 0
MemCellCommits result old new writes =
    MatchResult result (λ _. MemCellsWritten writes old new) (λ err. MemCellsKept err old new)
