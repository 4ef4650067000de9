use Rattle.off_transfer_laws.proofs.StepLaws.{files_are_own}
use Rattle.off_transfer_laws.proofs.laws.a_file_is_its_modems.Goals as goal

pub returns : goal.returns
returns c = files_are_own
