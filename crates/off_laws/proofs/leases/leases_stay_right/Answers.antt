use Rattle.off_laws.proofs.Standings.{leases_stay_right}
use Rattle.off_laws.proofs.leases.leases_stay_right.Goals as goal

pub returns : goal.returns
returns c = leases_stay_right
