use Rattle.off_drill_job.proofs.DrillLemmas.{drills_by}
use Rattle.off_drill_job.proofs.drilling.drill.Goals as goal

pub returns : goal.returns
returns g c = drills_by c.come_to_end-end.result c.args.count c.tell_end.result _ _ _ _ _ _ c.come_to_end-end.ensures c.tell_end.ensures
