use Rattle.std.proofs.Common.{inl, ◌≡◌, None}
use Rattle.off_cells.specs.CellsSeen.{next_cell}
use Rattle.off_sqlcells.specs.Statements.{Nexts}
use Rattle.off_sqlcells.proofs.StateLemmas.{came_told, still_tells, query_fails}
use Rattle.off_sqlcells.specs.Refusals.{ShowNoCell}
use Rattle.off_sqlcells.proofs.CallLemmas.{val_looked, only_ok, copy_fails}
use Rattle.off_sqlcells.proofs.statements.find_first.Goals as goal

pub returns-in-Ok-clause-kept : goal.returns-in-Ok-clause-kept
returns-in-Ok-clause-kept g c = λ steady m told.
    ((came_told None _ _ _ (c.in-Ok.ensures.shown (steady c.first_rows.new.conn.store))).told m told).0

pub returns-in-Ok-clause-found : goal.returns-in-Ok-clause-found
returns-in-Ok-clause-found g c = λ steady.
    val_looked c.first_cell.result _ _ (λ m. Nexts None m c.in-Ok.rows.items) (λ cell m. cell ≡ next_cell None m)
    (only_ok c.first_cell.result _ _ (λ cell each. each None) c.first_cell.ensures.read)
    (came_told None _ _ _ (c.in-Ok.ensures.shown (steady c.first_rows.new.conn.store)))

pub returns-in-Err-clause-kept : goal.returns-in-Err-clause-kept
returns-in-Err-clause-kept g c = λ steady m told. still_tells _ _ m (query_fails _ _ _ _ _ (c.in-Err.ensures.fails (steady c.first_rows.new.conn.store))) told

pub returns-in-Ok-clause-cause : goal.returns-in-Ok-clause-cause
returns-in-Ok-clause-cause g c = λ steady.
    copy_fails c.first_cell.result _ _ ShowNoCell _ _ c.in-Ok.rows.items (c.in-Ok.ensures.shown (steady c.first_rows.new.conn.store)) c.first_cell.ensures.cause

pub returns-in-Err-clause-cause : goal.returns-in-Err-clause-cause
returns-in-Err-clause-cause g c = λ steady. inl (c.in-Err.err, c.in-Err.ensures.fails (steady c.first_rows.new.conn.store), c.from.ensures)
