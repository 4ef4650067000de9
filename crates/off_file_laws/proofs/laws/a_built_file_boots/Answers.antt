use Rattle.off_file_laws.proofs.LawLemmas.{files_boot}
use Rattle.off_file_laws.proofs.laws.a_built_file_boots.Goals as goal

pub returns : goal.returns
returns c = files_boot
