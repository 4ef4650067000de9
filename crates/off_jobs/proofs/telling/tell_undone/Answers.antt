use Rattle.off_jobs.specs.Ending.{undone_end}
use Rattle.off_jobs.proofs.EndingLemmas.{tells_by}
use Rattle.off_jobs.proofs.telling.tell_undone.Goals as goal

pub returns-in-Failed : goal.returns-in-Failed
returns-in-Failed g c = tells_by undone_end _ _ _ _ _ c.in-Failed.is c.tell.ensures
