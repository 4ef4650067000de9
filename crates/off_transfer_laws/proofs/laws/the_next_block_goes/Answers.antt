use Rattle.off_transfer_laws.proofs.OriginLemmas.{next_block_goes}
use Rattle.off_transfer_laws.proofs.laws.the_next_block_goes.Goals as goal

pub returns : goal.returns
returns c = next_block_goes
