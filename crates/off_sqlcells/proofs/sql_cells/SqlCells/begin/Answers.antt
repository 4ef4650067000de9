use Rattle.std.proofs.Common.{inr}
use Rattle.std.proofs.lemmas.Result.{err_from_is_err_and}
use Rattle.off_sqlcells.proofs.BeginLemmas.{begins}
use Rattle.off_sqlcells.proofs.sql_cells.SqlCells.begin.Goals as goal

pub returns-clause-begun : goal.returns-clause-begun
returns-clause-begun g c =
    begins g.S.Store c.args.conn c.make_table.new.conn c.is_autocommit.result g.met.S.Ordered.in_order c.schema-schema.ensures.live c.in_ok-make_table.ensures.made c.if-not-is_autocommit.false c.is_autocommit.ensures.value c.is_autocommit.ensures.settled
    (rw c.schema.ensures.value at (c.is_ours.ensures.0 c.if-not-is_ours.false))

pub returns-in_err-make_table-clause-cause : goal.returns-in_err-make_table-clause-cause
returns-in_err-make_table-clause-cause g c = λ steady.
    let p = err_from_is_err_and c.from_residual.result c.from_residual.ensures.1 in
    rw (p.1, p.2) (inr (c.make_table.new.conn, c.in_err-make_table.ensures.cause steady))
