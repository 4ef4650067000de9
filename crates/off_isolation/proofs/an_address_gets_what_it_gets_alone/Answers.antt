use Rattle.off_isolation.proofs.RunLemmas.{isolated}
use Rattle.off_isolation.proofs.an_address_gets_what_it_gets_alone.Goals as goal

pub returns : goal.returns
returns c = isolated
