-- What a call of cells in memory tells.
use Rattle.std.proofs.Common.{◌≡◌, ◌≤◌, Result, Ok, Err, inl, List, sym, ap, subst, ◌∙◌, arith}
use Rattle.off_defs.specs.Counts.{Tallied, one_more, most_count}
use Rattle.off_defs.proofs.CountLemmas.{tallied_one}
use Rattle.off_defs.proofs.ToldLemmas.{told_known}
use Rattle.off_outside.specs.InMemory.{CallsHeld}
use Rattle.off_outside.specs.KeeperCalls.{keeper_faults_in}
use Rattle.off_outside.specs.declared.keeper.KeepErr.{KeepErr}
use Rattle.off_outside.specs.declared.keeper.KeepErr.TheVariants.{Memory, Failed}
use Rattle.off_cells.specs.CellsSeen.{CellMap}
use Rattle.off_cells.specs.CellCalls.{CellsKept, CellLooks, CellCommits, CellCallCounted}
use Rattle.off_cells.specs.SortedCells.{MemCellsHeld}
use Rattle.off_cells.specs.MemCellsSeen.{mem_seen, MemCellsKept, MemCellLooks, MemCellCommits}
use Rattle.off_cells.specs.declared.writes.CellWrite.{CellWrite}

kept_counts : (err : KeepErr) (old new : MemCellsHeld) → MemCellsKept err old new → Tallied (keeper_faults_in err) old.faults new.faults
kept_counts Memory old new kept = record {
  grew = record { later = omega (arith, kept.faults); grew = omega (arith, kept.faults, kept.fits) };
  stands = λ none. kept.faults;
}
kept_counts Failed old new kept = tallied_one (record { later = omega (arith, kept.faults, kept.fits); grew = omega (arith, kept.faults) })

pub kept_tells : (err : KeepErr) (old new : MemCellsHeld) → MemCellsKept err old new → CellsKept err (mem_seen old) (mem_seen new)
kept_tells err old new kept = record {
  cells = λ m told. told ∙ sym kept.cells;
  up = λ up. inl up;
  faults = kept_counts err old new kept;
}

pub looks_told : {A : Type 0} (P : A → CellMap → Type 0) (r : Result A KeepErr) (old new : MemCellsHeld)
    → MemCellLooks r old new P → CellLooks r (mem_seen old) (mem_seen new) P
looks_told P (Ok a) old new h = record {
  cells = λ m told. (told ∙ sym h.1.cells, subst (P a) (sym told) h.0);
  up = λ up. up;
  faults = h.1.faults;
}
looks_told P (Err err) old new h = kept_tells err old new h

pub commit_told : (writes : List CellWrite) (r : Result (Unit {0}) KeepErr) (old new : MemCellsHeld)
    → MemCellCommits r old new writes → CellCommits r (mem_seen old) (mem_seen new) writes
commit_told writes (Ok a) old new h = record { cells = told_known h.cells; up = λ up. up; faults = h.faults }
commit_told writes (Err err) old new h = kept_tells err old new h

counted_by : (old new : MemCellsHeld) → old.calls.made ≤ most_count → new.calls.made ≡ one_more old.calls.made → CellCallCounted (mem_seen old) (mem_seen new)
counted_by old new fits one = record { later = omega (arith, fits, one); one = one }

pub looks_counted : {A : Type 0} (P : A → CellMap → Type 0) (r : Result A KeepErr) (old new : MemCellsHeld)
    → MemCellLooks r old new P → CellCallCounted (mem_seen old) (mem_seen new)
looks_counted P (Ok a) old new h = counted_by old new h.1.fits (ap (λ (v : CallsHeld). v.made) h.1.calls)
looks_counted P (Err err) old new h = counted_by old new h.calls_fit (ap (λ (v : CallsHeld). v.made) h.calls)

pub commit_counted : (writes : List CellWrite) (r : Result (Unit {0}) KeepErr) (old new : MemCellsHeld)
    → MemCellCommits r old new writes → CellCallCounted (mem_seen old) (mem_seen new)
commit_counted writes (Ok a) old new h = counted_by old new h.fits (ap (λ (v : CallsHeld). v.made) h.calls)
commit_counted writes (Err err) old new h = counted_by old new h.calls_fit (ap (λ (v : CallsHeld). v.made) h.calls)
