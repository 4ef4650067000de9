use Rattle.off_rows.proofs.Rows.{one_row}
use Rattle.off_rows.proofs.laws.a_row_has_one_spelling.Goals as goal

pub returns : goal.returns
returns c = one_row
