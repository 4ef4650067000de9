use Rattle.off_transfer_laws.proofs.SoundLemmas.{numbers_fit}
use Rattle.off_transfer_laws.proofs.laws.block_numbers_fit.Goals as goal

pub returns : goal.returns
returns c = numbers_fit
