use Rattle.off_lease_laws.proofs.FreeLemmas.{live_for_its_owner}
use Rattle.off_lease_laws.proofs.laws.an_address_is_live_for_its_owner.Goals as goal

pub returns : goal.returns
returns c = live_for_its_owner
