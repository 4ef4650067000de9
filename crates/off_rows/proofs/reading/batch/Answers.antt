use Rattle.std.proofs.lemmas.Result.{err_from_is_err_and}
use Rattle.off_rows.proofs.BadLemmas.{bad_here, bad_behind, bad_left}
use Rattle.off_rows.proofs.reading.batch.Goals as goal

pub returns-in_err-kind : goal.returns-in_err-kind
returns-in_err-kind c =
    let p = err_from_is_err_and c.from_residual.result c.from_residual.ensures.1 in
    rw (p.1, p.2, ← c.over-fields.ensures) (bad_here c.in_err-kind.ensures)

pub returns-in_err-digest : goal.returns-in_err-digest
returns-in_err-digest c =
    let p = err_from_is_err_and c.from_residual-in_err-digest.result c.from_residual-in_err-digest.ensures.1 in
    rw (p.1, p.2, ← c.over-fields.ensures) (bad_behind c.in_ok-kind.ensures (bad_here c.in_err-digest.ensures))

pub returns-in_err-rows : goal.returns-in_err-rows
returns-in_err-rows c =
    let p = err_from_is_err_and c.from_residual-in_err-rows.result c.from_residual-in_err-rows.ensures.1 in
    rw (p.1, p.2, ← c.over-fields.ensures) (bad_behind c.in_ok-kind.ensures (bad_behind c.in_ok-digest.ensures (bad_here c.in_err-rows.ensures)))

pub returns-in_err-end : goal.returns-in_err-end
returns-in_err-end c =
    let p = err_from_is_err_and c.from_residual-in_err-end.result c.from_residual-in_err-end.ensures.1 in
    rw (p.1, p.2, ← c.over-fields.ensures) (bad_behind c.in_ok-kind.ensures (bad_behind c.in_ok-digest.ensures (bad_behind c.in_ok-rows.ensures.1 (bad_left c.in_err-end.ensures))))
