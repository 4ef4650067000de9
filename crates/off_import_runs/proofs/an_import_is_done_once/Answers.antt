use Rattle.off_import_runs.proofs.Runs.{imports_do}
use Rattle.off_import_runs.proofs.an_import_is_done_once.Goals as goal

pub returns : goal.returns
returns c = imports_do
