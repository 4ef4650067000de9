use Rattle.off_transfer_laws.proofs.TextLemmas.{sizes_fit}
use Rattle.off_transfer_laws.proofs.laws.sizes_that_are_read_fit.Goals as goal

pub returns : goal.returns
returns c = sizes_fit
