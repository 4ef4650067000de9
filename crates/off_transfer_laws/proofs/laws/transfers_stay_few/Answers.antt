use Rattle.off_transfer_laws.proofs.StepLaws.{few_stay}
use Rattle.off_transfer_laws.proofs.laws.transfers_stay_few.Goals as goal

pub returns : goal.returns
returns c = few_stay
