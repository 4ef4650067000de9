use Rattle.off_laws.proofs.Outlasting.{bindings_outlast}
use Rattle.off_laws.proofs.leases.what_is_bound_stays_bound.Goals as goal

pub returns : goal.returns
returns c = bindings_outlast
