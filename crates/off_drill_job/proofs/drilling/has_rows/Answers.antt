use Rattle.off_drill_job.proofs.DrillLemmas.{finds}
use Rattle.off_drill_job.proofs.drilling.has_rows.Goals as goal

pub returns-in-Ok : goal.returns-in-Ok
returns-in-Ok g c = rw c.is_some.ensures (finds c.in-Ok.entry _ _ c.in-Ok.ensures.told)
