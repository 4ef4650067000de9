use Rattle.std.proofs.lemmas.Result.{err_from_is_err_and}
use Rattle.off_rows.proofs.FieldLemmas.{length_cut}
use Rattle.off_rows.proofs.fields.Fields.long_counted.Goals as goal

pub returns-in_err-length : goal.returns-in_err-length
returns-in_err-length c =
    let p = err_from_is_err_and c.from_residual.result c.from_residual.ensures.1 in
    rw (p.1, p.2) (length_cut c.in_err-length.ensures)
