use Rattle.off_transfer_laws.proofs.StepLaws.{good_have_files}
use Rattle.off_transfer_laws.proofs.laws.good_tables_have_the_file.Goals as goal

pub returns : goal.returns
returns c = good_have_files
