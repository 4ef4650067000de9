use Rattle.off_file_laws.proofs.LawLemmas.{files_are_short}
use Rattle.off_file_laws.proofs.laws.files_are_short.Goals as goal

pub returns : goal.returns
returns c = files_are_short
