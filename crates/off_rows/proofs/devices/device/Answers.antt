use Rattle.std.proofs.Common.{[], ◌∷◌}
use Rattle.std.proofs.lemmas.Result.{err_from_is_err_and}
use Rattle.off_rows.specs.BadRow.{bytes_of}
use Rattle.off_rows.proofs.BadLemmas.{bad_here, bad_behind, bad_left, lease_bad}
use Rattle.off_rows.proofs.devices.device.Goals as goal

pub returns-in_err-hold : goal.returns-in_err-hold
returns-in_err-hold c =
    let p = err_from_is_err_and c.from_residual.result c.from_residual.ensures.1 in
    rw (p.1, p.2) (lease_bad (bytes_of 6 ∷ bytes_of 6 ∷ []) c.over-fields.ensures (c.in_err-hold.ensures (bytes_of 8 ∷ [])))

pub returns-in_err-expiry : goal.returns-in_err-expiry
returns-in_err-expiry c =
    let p = err_from_is_err_and c.from_residual-in_err-expiry.result c.from_residual-in_err-expiry.ensures.1 in
    rw (p.1, p.2) (lease_bad (bytes_of 6 ∷ bytes_of 6 ∷ []) c.over-fields.ensures (c.in_ok-hold.ensures.1.later (bytes_of 8 ∷ []) _ (bad_here c.in_err-expiry.ensures)))

pub returns-in_err-end : goal.returns-in_err-end
returns-in_err-end c =
    let p = err_from_is_err_and c.from_residual-in_err-end.result c.from_residual-in_err-end.ensures.1 in
    rw (p.1, p.2) (lease_bad (bytes_of 6 ∷ bytes_of 6 ∷ []) c.over-fields.ensures (c.in_ok-hold.ensures.1.later (bytes_of 8 ∷ []) _ (bad_behind c.in_ok-expiry.ensures.1 (bad_left c.in_err-end.ensures))))
