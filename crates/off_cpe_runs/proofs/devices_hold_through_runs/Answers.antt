use Rattle.off_cpe_runs.proofs.Runs.{devices_hold_over_runs}
use Rattle.off_cpe_runs.proofs.devices_hold_through_runs.Goals as goal

pub returns : goal.returns
returns c = devices_hold_over_runs
