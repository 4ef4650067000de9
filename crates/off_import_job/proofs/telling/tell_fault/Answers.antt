use Rattle.off_import_job.specs.Telling.{fault_end}
use Rattle.off_jobs.proofs.EndingLemmas.{tells_by}
use Rattle.off_import_job.proofs.telling.tell_fault.Goals as goal

pub returns-in-Memory : goal.returns-in-Memory
returns-in-Memory g c = tells_by fault_end _ _ _ _ _ c.in-Memory.is c.tell_memory.ensures
