use Rattle.off_lease_laws.proofs.FreeLemmas.{least_is_least}
use Rattle.off_lease_laws.proofs.laws.the_least_is_the_least.Goals as goal

pub returns : goal.returns
returns c = least_is_least
