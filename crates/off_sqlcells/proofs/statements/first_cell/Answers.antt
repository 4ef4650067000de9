use Rattle.std.proofs.Common.{ℕ, ◌==◌, ap, sym, ◌∙◌}
use Rattle.std.proofs.lemmas.Result.{err_from_is_err_and}
use Rattle.off_sqlcells.proofs.CallLemmas.{first_bad}
use Rattle.off_sqlcells.proofs.statements.first_cell.Goals as goal

pub returns-in_err-cell-clause-cause : goal.returns-in_err-cell-clause-cause
returns-in_err-cell-clause-cause c =
    let p = err_from_is_err_and c.from_residual.result c.from_residual.ensures.1 in
    rw (p.1, p.2) (first_bad c.args.rows.now.items c.index.result.now _
    (ap (λ (n : ℕ). n == 0) (sym c.args.rows.now.ok.0) ∙ (sym c.is_empty.ensures ∙ c.if-is_empty.false)) c.index.ensures c.in_err-cell.ensures.cause)
