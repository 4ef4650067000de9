use Rattle.off_lease_laws.proofs.EffectLemmas.{acks_bind}
use Rattle.off_lease_laws.proofs.laws.an_ack_binds.Goals as goal

pub returns : goal.returns
returns c = acks_bind
