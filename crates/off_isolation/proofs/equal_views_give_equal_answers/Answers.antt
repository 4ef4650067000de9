use Rattle.off_isolation.proofs.AlikeLemmas.{views_give_the_same}
use Rattle.off_isolation.proofs.equal_views_give_equal_answers.Goals as goal

pub returns : goal.returns
returns c = views_give_the_same
