use Rattle.std.proofs.Common.{inl, ◌≡◌}
use Rattle.off_cells.specs.CellsSeen.{cell_at}
use Rattle.off_sqlcells.specs.Statements.{Gets}
use Rattle.off_sqlcells.proofs.StateLemmas.{got_told, still_tells, query_fails}
use Rattle.off_sqlcells.specs.Refusals.{ShowNoValue}
use Rattle.off_sqlcells.proofs.CallLemmas.{val_looked, only_ok, copy_fails}
use Rattle.off_sqlcells.proofs.statements.find_val.Goals as goal

pub returns-in-Ok-clause-kept : goal.returns-in-Ok-clause-kept
returns-in-Ok-clause-kept g c = λ steady m told.
    ((got_told c.args.ident.now _ _ _ (c.in-Ok.ensures.shown (steady c.rows_with.new.conn.store))).told m told).0

pub returns-in-Ok-clause-found : goal.returns-in-Ok-clause-found
returns-in-Ok-clause-found g c = λ steady.
    val_looked c.val_of.result _ _ (λ m. Gets c.args.ident.now m c.in-Ok.rows.items) (λ val m. val ≡ cell_at m c.args.ident.now)
    (only_ok c.val_of.result _ _ (λ val each. each c.args.ident.now) c.val_of.ensures.read)
    (got_told c.args.ident.now _ _ _ (c.in-Ok.ensures.shown (steady c.rows_with.new.conn.store)))

pub returns-in-Err-clause-kept : goal.returns-in-Err-clause-kept
returns-in-Err-clause-kept g c = λ steady m told. still_tells _ _ m (query_fails _ _ _ _ _ (c.in-Err.ensures.fails (steady c.rows_with.new.conn.store))) told

pub returns-in-Ok-clause-cause : goal.returns-in-Ok-clause-cause
returns-in-Ok-clause-cause g c = λ steady.
    copy_fails c.val_of.result _ _ ShowNoValue _ _ c.in-Ok.rows.items (c.in-Ok.ensures.shown (steady c.rows_with.new.conn.store)) c.val_of.ensures.cause

pub returns-in-Err-clause-cause : goal.returns-in-Err-clause-cause
returns-in-Err-clause-cause g c = λ steady. inl (c.in-Err.err, c.in-Err.ensures.fails (steady c.rows_with.new.conn.store), c.from.ensures)
