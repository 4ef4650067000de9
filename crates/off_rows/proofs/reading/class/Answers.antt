use Rattle.std.proofs.Common.{refl, inl, inr}
use Rattle.std.proofs.lemmas.Result.{err_from_is_err_and}
use Rattle.off_rows.proofs.BadLemmas.{bad_here, bad_behind, bad_left, settings_taken, class_there}
use Rattle.off_rows.proofs.reading.class.Goals as goal

pub returns-in_err-name : goal.returns-in_err-name
returns-in_err-name c =
    let p = err_from_is_err_and c.from_residual.result c.from_residual.ensures.1 in
    rw (p.1, p.2, ← c.over-fields.ensures) (inl (bad_here c.in_err-name.ensures))

pub returns-in_err-spelling : goal.returns-in_err-spelling
returns-in_err-spelling c =
    let p = err_from_is_err_and c.from_residual-in_err-spelling.result c.from_residual-in_err-spelling.ensures.1 in
    rw (p.1, p.2, ← c.over-fields.ensures) (inl (bad_behind c.in_ok-name.ensures.1 (bad_here c.in_err-spelling.ensures)))

pub returns-in_err-end : goal.returns-in_err-end
returns-in_err-end c =
    let p = err_from_is_err_and c.from_residual-in_err-end.result c.from_residual-in_err-end.ensures.1 in
    rw (p.1, p.2, ← c.over-fields.ensures) (inl (bad_behind c.in_ok-name.ensures.1 (bad_behind (settings_taken c.in_ok-spelling.ensures.0 c.in_ok-spelling.ensures.1 c.in_ok-spelling.ensures.2).1 (bad_left c.in_err-end.ensures))))

pub returns-in-Err : goal.returns-in-Err
returns-in-Err c =
    inr (refl, class_there c.in_ok-name.name c.over-fields.ensures c.in_ok-name.ensures.0 c.in_ok-name.ensures.1 c.in_ok-spelling.ensures.0 c.in_ok-spelling.ensures.1 c.in_ok-spelling.ensures.2 c.in_ok-end.ensures)
