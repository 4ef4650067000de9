use Rattle.off_transfer_runs.proofs.Whole.{each_file_ends}
use Rattle.off_transfer_runs.proofs.each_file_has_a_last_block.Goals as goal

pub returns : goal.returns
returns c = each_file_ends
