use Rattle.off_lease_laws.proofs.LawLemmas.{step_is_one}
use Rattle.off_lease_laws.proofs.laws.a_datagram_does_one_thing.Goals as goal

pub returns : goal.returns
returns c = step_is_one
