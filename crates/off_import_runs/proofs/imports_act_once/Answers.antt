use Rattle.off_import_runs.proofs.Runs.{imports_act_once_through}
use Rattle.off_import_runs.proofs.imports_act_once.Goals as goal

pub returns : goal.returns
returns c = imports_act_once_through
