use Rattle.off_runs.proofs.SeenLemmas.{moves}
use Rattle.off_runs.proofs.laws.writes_move_leases.Goals as goal

pub returns : goal.returns
returns c = moves
