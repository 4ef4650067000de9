use Rattle.std.proofs.lemmas.Result.{err_from_is_err_and}
use Rattle.off_rows.proofs.BadLemmas.{bad_here, bad_behind, bad_left}
use Rattle.off_rows.proofs.reading.modem.Goals as goal

pub returns-in_err-subscriber : goal.returns-in_err-subscriber
returns-in_err-subscriber c =
    let p = err_from_is_err_and c.from_residual.result c.from_residual.ensures.1 in
    rw (p.1, p.2, ← c.over-fields.ensures) (bad_here c.in_err-subscriber.ensures)

pub returns-in_err-class : goal.returns-in_err-class
returns-in_err-class c =
    let p = err_from_is_err_and c.from_residual-in_err-class.result c.from_residual-in_err-class.ensures.1 in
    rw (p.1, p.2, ← c.over-fields.ensures) (bad_behind c.in_ok-subscriber.ensures.1 (bad_here c.in_err-class.ensures))

pub returns-in_err-serial : goal.returns-in_err-serial
returns-in_err-serial c =
    let p = err_from_is_err_and c.from_residual-in_err-serial.result c.from_residual-in_err-serial.ensures.1 in
    rw (p.1, p.2, ← c.over-fields.ensures) (bad_behind c.in_ok-subscriber.ensures.1 (bad_behind c.in_ok-class.ensures.1 (bad_here c.in_err-serial.ensures)))

pub returns-in_err-end : goal.returns-in_err-end
returns-in_err-end c =
    let p = err_from_is_err_and c.from_residual-in_err-end.result c.from_residual-in_err-end.ensures.1 in
    rw (p.1, p.2, ← c.over-fields.ensures) (bad_behind c.in_ok-subscriber.ensures.1 (bad_behind c.in_ok-class.ensures.1 (bad_behind c.in_ok-serial.ensures.1 (bad_left c.in_err-end.ensures))))
