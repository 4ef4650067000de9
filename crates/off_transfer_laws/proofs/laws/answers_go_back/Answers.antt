use Rattle.off_transfer_laws.proofs.StepLaws.{answers_go_back}
use Rattle.off_transfer_laws.proofs.laws.answers_go_back.Goals as goal

pub returns : goal.returns
returns c = answers_go_back
