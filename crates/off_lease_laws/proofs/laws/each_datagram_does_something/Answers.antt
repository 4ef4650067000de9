use Rattle.off_lease_laws.proofs.LawLemmas.{step_is_there}
use Rattle.off_lease_laws.proofs.laws.each_datagram_does_something.Goals as goal

pub returns : goal.returns
returns c = step_is_there
