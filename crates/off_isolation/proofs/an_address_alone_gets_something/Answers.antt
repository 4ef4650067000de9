use Rattle.off_isolation.proofs.AlikeLemmas.{alone_is_there}
use Rattle.off_isolation.proofs.an_address_alone_gets_something.Goals as goal

pub returns : goal.returns
returns c = alone_is_there
