use Rattle.off_lease_laws.proofs.AgreeLemmas.{agreement_stays}
use Rattle.off_lease_laws.proofs.laws.leases_and_holders_still_agree.Goals as goal

pub returns : goal.returns
returns c = agreement_stays
