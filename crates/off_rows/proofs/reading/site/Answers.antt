use Rattle.std.proofs.lemmas.Result.{err_from_is_err_and}
use Rattle.off_rows.proofs.BadLemmas.{bad_here, bad_behind, bad_left}
use Rattle.off_rows.proofs.reading.site.Goals as goal

pub returns-in_err-server : goal.returns-in_err-server
returns-in_err-server c =
    let p = err_from_is_err_and c.from_residual.result c.from_residual.ensures.1 in
    rw (p.1, p.2, ← c.over-fields.ensures) (bad_here c.in_err-server.ensures)

pub returns-in_err-secret : goal.returns-in_err-secret
returns-in_err-secret c =
    let p = err_from_is_err_and c.from_residual-in_err-secret.result c.from_residual-in_err-secret.ensures.1 in
    rw (p.1, p.2, ← c.over-fields.ensures) (bad_behind c.in_ok-server.ensures.1 (bad_here c.in_err-secret.ensures))

pub returns-in_err-offset : goal.returns-in_err-offset
returns-in_err-offset c =
    let p = err_from_is_err_and c.from_residual-in_err-offset.result c.from_residual-in_err-offset.ensures.1 in
    rw (p.1, p.2, ← c.over-fields.ensures) (bad_behind c.in_ok-server.ensures.1 (bad_behind c.in_ok-secret.ensures.1 (bad_here c.in_err-offset.ensures)))

pub returns-in_err-lease : goal.returns-in_err-lease
returns-in_err-lease c =
    let p = err_from_is_err_and c.from_residual-in_err-lease.result c.from_residual-in_err-lease.ensures.1 in
    rw (p.1, p.2, ← c.over-fields.ensures) (bad_behind c.in_ok-server.ensures.1 (bad_behind c.in_ok-secret.ensures.1 (bad_behind c.in_ok-offset.ensures.1 (bad_here c.in_err-lease.ensures))))

pub returns-in_err-log : goal.returns-in_err-log
returns-in_err-log c =
    let p = err_from_is_err_and c.from_residual-in_err-log.result c.from_residual-in_err-log.ensures.1 in
    rw (p.1, p.2, ← c.over-fields.ensures) (bad_behind c.in_ok-server.ensures.1 (bad_behind c.in_ok-secret.ensures.1 (bad_behind c.in_ok-offset.ensures.1 (bad_behind c.in_ok-lease.ensures.1 (bad_here c.in_err-log.ensures)))))

pub returns-in_err-end : goal.returns-in_err-end
returns-in_err-end c =
    let p = err_from_is_err_and c.from_residual-in_err-end.result c.from_residual-in_err-end.ensures.1 in
    rw (p.1, p.2, ← c.over-fields.ensures) (bad_behind c.in_ok-server.ensures.1 (bad_behind c.in_ok-secret.ensures.1 (bad_behind c.in_ok-offset.ensures.1 (bad_behind c.in_ok-lease.ensures.1 (bad_behind c.in_ok-log.ensures.1 (bad_left c.in_err-end.ensures))))))
