use Rattle.std.proofs.lemmas.Result.{err_from_is_err_and}
use Rattle.off_rows.proofs.BadLemmas.{bad_here, bad_behind, bad_left}
use Rattle.off_rows.proofs.reading.pool.Goals as goal

pub returns-in_err-first : goal.returns-in_err-first
returns-in_err-first c =
    let p = err_from_is_err_and c.from_residual.result c.from_residual.ensures.1 in
    rw (p.1, p.2, ← c.over-fields.ensures) (bad_here c.in_err-first.ensures)

pub returns-in_err-last : goal.returns-in_err-last
returns-in_err-last c =
    let p = err_from_is_err_and c.from_residual-in_err-last.result c.from_residual-in_err-last.ensures.1 in
    rw (p.1, p.2, ← c.over-fields.ensures) (bad_behind c.in_ok-first.ensures.1 (bad_here c.in_err-last.ensures))

pub returns-in_err-prefix : goal.returns-in_err-prefix
returns-in_err-prefix c =
    let p = err_from_is_err_and c.from_residual-in_err-prefix.result c.from_residual-in_err-prefix.ensures.1 in
    rw (p.1, p.2, ← c.over-fields.ensures) (bad_behind c.in_ok-first.ensures.1 (bad_behind c.in_ok-last.ensures.1 (bad_here c.in_err-prefix.ensures)))

pub returns-in_err-router : goal.returns-in_err-router
returns-in_err-router c =
    let p = err_from_is_err_and c.from_residual-in_err-router.result c.from_residual-in_err-router.ensures.1 in
    rw (p.1, p.2, ← c.over-fields.ensures) (bad_behind c.in_ok-first.ensures.1 (bad_behind c.in_ok-last.ensures.1 (bad_behind c.in_ok-prefix.ensures.1 (bad_here c.in_err-router.ensures))))

pub returns-in_err-relay : goal.returns-in_err-relay
returns-in_err-relay c =
    let p = err_from_is_err_and c.from_residual-in_err-relay.result c.from_residual-in_err-relay.ensures.1 in
    rw (p.1, p.2, ← c.over-fields.ensures) (bad_behind c.in_ok-first.ensures.1 (bad_behind c.in_ok-last.ensures.1 (bad_behind c.in_ok-prefix.ensures.1 (bad_behind c.in_ok-router.ensures.1 (bad_here c.in_err-relay.ensures)))))

pub returns-in_err-end : goal.returns-in_err-end
returns-in_err-end c =
    let p = err_from_is_err_and c.from_residual-in_err-end.result c.from_residual-in_err-end.ensures.1 in
    rw (p.1, p.2, ← c.over-fields.ensures) (bad_behind c.in_ok-first.ensures.1 (bad_behind c.in_ok-last.ensures.1 (bad_behind c.in_ok-prefix.ensures.1 (bad_behind c.in_ok-router.ensures.1 (bad_behind c.in_ok-relay.ensures.1 (bad_left c.in_err-end.ensures))))))
