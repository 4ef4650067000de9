use Rattle.off_laws.proofs.Outlasting.{leases_outlast}
use Rattle.off_laws.proofs.leases.what_is_offered_or_bound_stays_so.Goals as goal

pub returns : goal.returns
returns c = leases_outlast
