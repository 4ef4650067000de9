use Rattle.std.proofs.Common.{[], ◌∷◌, ◌++◌}
use Rattle.std.proofs.lemmas.Result.{err_from_is_err_and}
use Rattle.off_rows.specs.BadRow.{bytes_of}
use Rattle.off_rows.proofs.BadLemmas.{bad_here, bad_behind, mark_bad, owners_bad, declined_passes, owners_pass, two_pass, mark_is_two}
use Rattle.off_rows.proofs.devices.device_hold.Goals as goal

pub returns-in_err-mark : goal.returns-in_err-mark
returns-in_err-mark c =
    let p = err_from_is_err_and c.from_residual.result c.from_residual.ensures.1 in
    rw (p.1, p.2) (mark_bad (bytes_of 6 ∷ bytes_of 6 ∷ []) c.in_err-mark.ensures)

pub returns-then-mark-eq3 : goal.returns-then-mark-eq3
returns-then-mark-eq3 c = (tt, declined_passes (bytes_of 6 ∷ bytes_of 6 ∷ []) c.in_ok-mark.mark c.if-mark-eq3.true c.in_ok-mark.ensures.1)

pub returns-in_err-modem : goal.returns-in_err-modem
returns-in_err-modem c =
    let p = err_from_is_err_and c.from_residual-in_err-modem.result c.from_residual-in_err-modem.ensures.1 in
    rw (p.1, p.2) (owners_bad (bytes_of 6 ∷ bytes_of 6 ∷ []) c.in_ok-mark.mark c.if-mark-eq3.false c.in_ok-mark.ensures.1 (λ more. bad_here c.in_err-modem.ensures))

pub returns-in_err-owner : goal.returns-in_err-owner
returns-in_err-owner c =
    let p = err_from_is_err_and c.from_residual-in_err-owner.result c.from_residual-in_err-owner.ensures.1 in
    rw (p.1, p.2) (owners_bad (bytes_of 6 ∷ bytes_of 6 ∷ []) c.in_ok-mark.mark c.if-mark-eq3.false c.in_ok-mark.ensures.1 (λ more. bad_behind c.in_ok-modem.ensures.1 (bad_here c.in_err-owner.ensures)))

pub returns-then-mark-eq1 : goal.returns-then-mark-eq1
returns-then-mark-eq1 c =
    ((c.in_ok-modem.ensures.0, c.in_ok-owner.ensures.0), owners_pass (bytes_of 6 ∷ bytes_of 6 ∷ []) c.in_ok-mark.mark 1 (c.in_ok-modem.modem.0 ++ c.in_ok-owner.owner.0) c.if-mark-eq1.true c.if-mark-eq3.false c.in_ok-mark.ensures.1 (two_pass c.in_ok-modem.ensures.1 c.in_ok-owner.ensures.1))

pub returns-else-mark-eq1 : goal.returns-else-mark-eq1
returns-else-mark-eq1 c =
    let two = mark_is_two c.in_ok-mark.mark c.in_ok-mark.ensures.0 c.if-mark-eq3.false c.if-mark-eq1.false in
    ((c.in_ok-modem.ensures.0, c.in_ok-owner.ensures.0), owners_pass (bytes_of 6 ∷ bytes_of 6 ∷ []) c.in_ok-mark.mark 2 (c.in_ok-modem.modem.0 ++ c.in_ok-owner.owner.0) two c.if-mark-eq3.false c.in_ok-mark.ensures.1 (two_pass c.in_ok-modem.ensures.1 c.in_ok-owner.ensures.1))
