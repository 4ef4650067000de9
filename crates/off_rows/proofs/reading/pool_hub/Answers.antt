use Rattle.std.proofs.lemmas.Result.{err_from_is_err_and}
use Rattle.off_rows.proofs.BadLemmas.{bad_here, bad_behind, bad_left}
use Rattle.off_rows.proofs.reading.pool_hub.Goals as goal

pub returns-in_err-hub : goal.returns-in_err-hub
returns-in_err-hub c =
    let p = err_from_is_err_and c.from_residual.result c.from_residual.ensures.1 in
    rw (p.1, p.2, ← c.over-fields.ensures) (bad_here c.in_err-hub.ensures)

pub returns-in_err-end : goal.returns-in_err-end
returns-in_err-end c =
    let p = err_from_is_err_and c.from_residual-in_err-end.result c.from_residual-in_err-end.ensures.1 in
    rw (p.1, p.2, ← c.over-fields.ensures) (bad_behind c.in_ok-hub.ensures.1 (bad_left c.in_err-end.ensures))
