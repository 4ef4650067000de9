use Rattle.off_mic.proofs.SealLemmas.{sealed_is_one}
use Rattle.off_mic.proofs.laws.settings_have_one_sealed_file.Goals as goal

pub returns : goal.returns
returns c = sealed_is_one
