use Rattle.off_lease_laws.proofs.OutcomeLemmas.{outcome}
use Rattle.off_lease_laws.proofs.laws.each_message_has_an_outcome.Goals as goal

pub returns : goal.returns
returns c = outcome
