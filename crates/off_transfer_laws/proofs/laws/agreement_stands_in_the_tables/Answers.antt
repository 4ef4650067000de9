use Rattle.off_transfer_laws.proofs.StepLaws.{agreement_stands}
use Rattle.off_transfer_laws.proofs.laws.agreement_stands_in_the_tables.Goals as goal

pub returns : goal.returns
returns c = agreement_stands
