use Rattle.off_import_runs.proofs.Runs.{batches_are_put_once}
use Rattle.off_import_runs.proofs.a_batch_is_put_once.Goals as goal

pub returns : goal.returns
returns c = batches_are_put_once
