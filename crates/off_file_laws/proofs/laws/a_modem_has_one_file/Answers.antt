use Rattle.off_file_laws.proofs.LawLemmas.{file_is_one}
use Rattle.off_file_laws.proofs.laws.a_modem_has_one_file.Goals as goal

pub returns : goal.returns
returns c = file_is_one
