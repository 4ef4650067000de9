use Rattle.off_lease_laws.proofs.KindLemmas.{counts_stay}
use Rattle.off_lease_laws.proofs.laws.counts_stay.Goals as goal

pub returns : goal.returns
returns c = counts_stay
