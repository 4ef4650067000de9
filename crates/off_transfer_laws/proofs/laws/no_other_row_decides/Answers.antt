use Rattle.off_transfer_laws.proofs.RowLemmas.{rows_decide}
use Rattle.off_transfer_laws.proofs.laws.no_other_row_decides.Goals as goal

pub returns : goal.returns
returns c = rows_decide
