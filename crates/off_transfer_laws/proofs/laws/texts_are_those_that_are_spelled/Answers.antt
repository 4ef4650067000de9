use Rattle.off_transfer_laws.proofs.TextLemmas.{texts_are_these}
use Rattle.off_transfer_laws.proofs.laws.texts_are_those_that_are_spelled.Goals as goal

pub returns : goal.returns
returns c = texts_are_these
