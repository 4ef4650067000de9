use Rattle.off_lease_laws.proofs.LawLemmas.{leases_last}
use Rattle.off_lease_laws.proofs.laws.a_lease_lasts.Goals as goal

pub returns : goal.returns
returns c = leases_last
