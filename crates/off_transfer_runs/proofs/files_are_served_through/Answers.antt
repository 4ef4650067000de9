use Rattle.off_transfer_runs.proofs.Runs.{files_of_runs}
use Rattle.off_transfer_runs.proofs.files_are_served_through.Goals as goal

pub returns : goal.returns
returns c = files_of_runs
