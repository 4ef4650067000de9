use Rattle.off_file_laws.proofs.LawLemmas.{profiles_spell}
use Rattle.off_file_laws.proofs.laws.profiles_spell.Goals as goal

pub returns : goal.returns
returns c = profiles_spell
