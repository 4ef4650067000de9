use Rattle.off_isolation.proofs.RunLemmas.{isolated_from}
use Rattle.off_isolation.proofs.an_address_is_alone_from_each_state_on.Goals as goal

pub returns : goal.returns
returns c = isolated_from
