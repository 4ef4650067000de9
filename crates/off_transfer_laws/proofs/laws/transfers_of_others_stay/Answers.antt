use Rattle.off_transfer_laws.proofs.StepLaws.{others_stay}
use Rattle.off_transfer_laws.proofs.laws.transfers_of_others_stay.Goals as goal

pub returns : goal.returns
returns c = others_stay
