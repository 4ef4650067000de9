use Rattle.off_isolation.proofs.AlikeLemmas.{same_rows_give_the_same}
use Rattle.off_isolation.proofs.two_runs_with_the_same_rows_give_the_same.Goals as goal

pub returns : goal.returns
returns c = same_rows_give_the_same
