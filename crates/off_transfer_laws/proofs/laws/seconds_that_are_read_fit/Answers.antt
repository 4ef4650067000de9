use Rattle.off_transfer_laws.proofs.TextLemmas.{seconds_fit}
use Rattle.off_transfer_laws.proofs.laws.seconds_that_are_read_fit.Goals as goal

pub returns : goal.returns
returns c = seconds_fit
