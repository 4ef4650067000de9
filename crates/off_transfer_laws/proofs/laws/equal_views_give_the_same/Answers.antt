use Rattle.off_transfer_laws.proofs.StepLaws.{views_decide}
use Rattle.off_transfer_laws.proofs.laws.equal_views_give_the_same.Goals as goal

pub returns : goal.returns
returns c = views_decide
