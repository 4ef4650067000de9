-- What is seen of the cells after each call.
use Rattle.std.proofs.Common.{ℕ, List, inl, inr, refl, arith}
use Rattle.sqlite_trees.specs.declared.store.Store.{Ghosts}
use Rattle.sqlite.specs.Held.{Held, state}
use Rattle.off_defs.proofs.CountLemmas.{tallied_one}
use Rattle.off_outside.specs.declared.keeper.KeepErr.{KeepErr}
use Rattle.off_outside.specs.declared.keeper.KeepErr.TheVariants.{Memory, Failed}
use Rattle.off_cells.specs.CellsSeen.{CellMap}
use Rattle.off_cells.specs.CellCalls.{CellsRead, CellsKept, CellsWritten}
use Rattle.off_cells.specs.CellWritten.{write_cells}
use Rattle.off_cells.specs.declared.writes.CellWrite.{CellWrite}
use Rattle.off_sqlcells.specs.Stands.{IsSteady, StillTells, Looked, Wrote}
use Rattle.off_sqlcells.specs.SqlCellsSeen.{sql_seen, Counts}

module _ {S : Type 0} (g : Ghosts S) (old new : Held S) where
  pub looked_read : (P : CellMap → Type 0) (faults before after : ℕ) → (IsSteady g → Looked (state g old) (state g new) P)
      → CellsRead P (sql_seen g old faults before) (sql_seen g new faults after)
  looked_read P faults before after looked = record {
    cells = λ m p. let t = (looked p.0).told m p.1 in ((p.0, t.0), t.1);
    up = λ up. (up.0, (looked up.0).opened);
    faults = refl;
  }

  pub wrote_written : (writes : List CellWrite) (faults before after : ℕ) → (IsSteady g → Wrote writes (state g old) (state g new))
      → CellsWritten writes (sql_seen g old faults before) (sql_seen g new faults after)
  wrote_written writes faults before after wrote = record {
    cells = record { each = λ m p. record { value = write_cells m writes; told = (p.0, (wrote p.0).told m p.1); fits = refl } };
    up = λ up. (up.0, (wrote up.0).opened);
    faults = refl;
  }

pub still_then : {S : Type 0} (g : Ghosts S) (old mid new : Held S) → StillTells (state g old) (state g mid) → StillTells (state g mid) (state g new) → StillTells (state g old) (state g new)
still_then g old mid new p q m told = q m (p m told)

pub refused_kept : {S : Type 0} (g : Ghosts S) (old mid new : Held S) (err : KeepErr) (faults counted before after : ℕ) → (IsSteady g → StillTells (state g old) (state g mid))
    → (IsSteady g → StillTells (state g mid) (state g new)) → Counts g new err faults counted → CellsKept err (sql_seen g old faults before) (sql_seen g new counted after)
refused_kept g old mid new Memory faults counted before after still stiller counts = record {
  cells = λ m p. (p.0, stiller p.0 m (still p.0 m p.1));
  up = λ up. inl (up.0, counts.1 up.0);
  faults = record { grew = record { later = omega (arith, counts.0); grew = omega (arith, counts.0) }; stands = λ none. counts.0 };
}
refused_kept g old mid new Failed faults counted before after still stiller counts = record {
  cells = λ m p. (p.0, stiller p.0 m (still p.0 m p.1));
  up = λ up. inr (record { later = omega (arith, counts.0, counts.1); grew = omega (arith, counts.0) });
  faults = tallied_one (record { later = omega (arith, counts.0, counts.1); grew = omega (arith, counts.0) });
}
