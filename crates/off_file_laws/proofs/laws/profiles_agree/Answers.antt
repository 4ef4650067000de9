use Rattle.off_file_laws.proofs.LawLemmas.{profiles_agree}
use Rattle.off_file_laws.proofs.laws.profiles_agree.Goals as goal

pub returns : goal.returns
returns c = profiles_agree
