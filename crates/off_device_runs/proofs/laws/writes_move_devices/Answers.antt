use Rattle.off_device_runs.proofs.SeenLemmas.{moves}
use Rattle.off_device_runs.proofs.laws.writes_move_devices.Goals as goal

pub returns : goal.returns
returns c = moves
