use Rattle.off_isolation.proofs.AlikeLemmas.{alone_is_one}
use Rattle.off_isolation.proofs.an_address_alone_gets_one_thing.Goals as goal

pub returns : goal.returns
returns c = alone_is_one
