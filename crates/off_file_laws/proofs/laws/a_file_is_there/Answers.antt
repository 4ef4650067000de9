use Rattle.off_file_laws.proofs.LawLemmas.{file_is_there}
use Rattle.off_file_laws.proofs.laws.a_file_is_there.Goals as goal

pub returns : goal.returns
returns c = file_is_there
