use Rattle.off_mic.proofs.SealLemmas.{sealed_verifies}
use Rattle.off_mic.proofs.laws.a_sealed_file_verifies.Goals as goal

pub returns : goal.returns
returns c = sealed_verifies
