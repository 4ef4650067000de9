use Rattle.off_office.specs.Closed.{closed_end}
use Rattle.off_jobs.proofs.EndingLemmas.{tells_by}
use Rattle.off_office.proofs.closed.stay_closed.Goals as goal

pub returns-in-Failed : goal.returns-in-Failed
returns-in-Failed g c = tells_by closed_end _ _ _ _ _ c.in-Failed.is c.tell_undone.ensures

pub returns-in-Memory : goal.returns-in-Memory
returns-in-Memory g c = tells_by closed_end _ _ _ _ _ c.in-Memory.is c.tell_memory.ensures
