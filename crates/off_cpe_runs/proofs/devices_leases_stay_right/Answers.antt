use Rattle.off_cpe_runs.proofs.Runs.{devices_stay_right}
use Rattle.off_cpe_runs.proofs.devices_leases_stay_right.Goals as goal

pub returns : goal.returns
returns c = devices_stay_right
