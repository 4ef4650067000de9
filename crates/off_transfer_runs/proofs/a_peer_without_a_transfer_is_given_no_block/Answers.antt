use Rattle.off_transfer_runs.proofs.Closed.{closed_are_quiet}
use Rattle.off_transfer_runs.proofs.a_peer_without_a_transfer_is_given_no_block.Goals as goal

pub returns : goal.returns
returns c = closed_are_quiet
