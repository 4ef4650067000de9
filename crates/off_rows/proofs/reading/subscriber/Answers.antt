use Rattle.std.proofs.lemmas.Result.{err_from_is_err_and}
use Rattle.off_rows.proofs.BadLemmas.{bad_here, bad_behind, bad_left}
use Rattle.off_rows.proofs.reading.subscriber.Goals as goal

pub returns-in_err-active : goal.returns-in_err-active
returns-in_err-active c =
    let p = err_from_is_err_and c.from_residual.result c.from_residual.ensures.1 in
    rw (p.1, p.2, ← c.over-fields.ensures) (bad_here c.in_err-active.ensures)

pub returns-in_err-cpes : goal.returns-in_err-cpes
returns-in_err-cpes c =
    let p = err_from_is_err_and c.from_residual-in_err-cpes.result c.from_residual-in_err-cpes.ensures.1 in
    rw (p.1, p.2, ← c.over-fields.ensures) (bad_behind c.in_ok-active.ensures (bad_here c.in_err-cpes.ensures))

pub returns-in_err-name : goal.returns-in_err-name
returns-in_err-name c =
    let p = err_from_is_err_and c.from_residual-in_err-name.result c.from_residual-in_err-name.ensures.1 in
    rw (p.1, p.2, ← c.over-fields.ensures) (bad_behind c.in_ok-active.ensures (bad_behind c.in_ok-cpes.ensures.1 (bad_here c.in_err-name.ensures)))

pub returns-in_err-end : goal.returns-in_err-end
returns-in_err-end c =
    let p = err_from_is_err_and c.from_residual-in_err-end.result c.from_residual-in_err-end.ensures.1 in
    rw (p.1, p.2, ← c.over-fields.ensures) (bad_behind c.in_ok-active.ensures (bad_behind c.in_ok-cpes.ensures.1 (bad_behind c.in_ok-name.ensures.1 (bad_left c.in_err-end.ensures))))
