use Rattle.off_jobs.proofs.EndingLemmas.{tells_by}
use Rattle.off_drill_job.specs.Telling.{drill_end}
use Rattle.off_drill_job.proofs.telling.tell_end.Goals as goal

pub returns-in-NotEmpty : goal.returns-in-NotEmpty
returns-in-NotEmpty g c = tells_by (drill_end c.args.count) _ _ _ _ _ c.in-NotEmpty.is c.tell.ensures
