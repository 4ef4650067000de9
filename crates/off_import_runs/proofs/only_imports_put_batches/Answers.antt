use Rattle.off_import_runs.proofs.Sources.{only_imports_put}
use Rattle.off_import_runs.proofs.only_imports_put_batches.Goals as goal

pub returns : goal.returns
returns c = only_imports_put
