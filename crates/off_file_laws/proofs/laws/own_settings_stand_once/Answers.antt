use Rattle.off_file_laws.proofs.LawLemmas.{own_settings_once}
use Rattle.off_file_laws.proofs.laws.own_settings_stand_once.Goals as goal

pub returns : goal.returns
returns c = own_settings_once
