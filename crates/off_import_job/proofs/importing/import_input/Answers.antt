use Rattle.off_import_job.proofs.ImportLemmas.{imports_by}
use Rattle.off_import_job.proofs.importing.import_input.Goals as goal

pub returns : goal.returns
returns g c = imports_by _ _ _ _ _ _ _ _ _ _ c.import-ended.ensures c.tell_end.ensures
