use Rattle.off_lease_laws.proofs.FreeLemmas.{one_lease_a_client}
use Rattle.off_lease_laws.proofs.laws.a_client_owns_one_lease.Goals as goal

pub returns : goal.returns
returns c = one_lease_a_client
