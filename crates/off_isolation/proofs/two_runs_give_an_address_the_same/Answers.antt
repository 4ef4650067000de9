use Rattle.off_isolation.proofs.AlikeLemmas.{both_give_the_same}
use Rattle.off_isolation.proofs.two_runs_give_an_address_the_same.Goals as goal

pub returns : goal.returns
returns c = both_give_the_same
