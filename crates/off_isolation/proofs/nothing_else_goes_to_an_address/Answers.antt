use Rattle.off_isolation.proofs.OtherLemmas.{nothing_else_goes}
use Rattle.off_isolation.proofs.nothing_else_goes_to_an_address.Goals as goal

pub returns : goal.returns
returns c = nothing_else_goes
