use Rattle.off_isolation.proofs.AlikeLemmas.{rows_show_the_same}
use Rattle.off_isolation.proofs.equal_rows_show_the_same.Goals as goal

pub returns : goal.returns
returns c = rows_show_the_same
