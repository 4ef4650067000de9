use Rattle.off_lease_laws.proofs.KindLemmas.{others_stay}
use Rattle.off_lease_laws.proofs.laws.only_leases_change.Goals as goal

pub returns : goal.returns
returns c = others_stay
