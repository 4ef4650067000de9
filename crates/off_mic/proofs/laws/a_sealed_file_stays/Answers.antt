use Rattle.off_mic.proofs.SealLemmas.{sealed_stays}
use Rattle.off_mic.proofs.laws.a_sealed_file_stays.Goals as goal

pub returns : goal.returns
returns c = sealed_stays
