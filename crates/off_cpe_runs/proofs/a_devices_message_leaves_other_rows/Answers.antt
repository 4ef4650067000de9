use Rattle.off_cpe_runs.proofs.Leaving.{devices_leave_others}
use Rattle.off_cpe_runs.proofs.a_devices_message_leaves_other_rows.Goals as goal

pub returns : goal.returns
returns c = devices_leave_others
