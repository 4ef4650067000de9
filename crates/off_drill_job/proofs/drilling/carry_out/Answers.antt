use Rattle.off_drill_job.proofs.DrillLemmas.{done_by, broken_by, broken_before}
use Rattle.off_drill_job.proofs.drilling.carry_out.Goals as goal

pub returns-in-Ok-exercise : goal.returns-in-Ok-exercise
returns-in-Ok-exercise g c =
    done_by c.args.count c.requires.few _ _ _ _ _ _ _ _ _ _ c.none_yet-tally.ensures c.in-Ok.ensures.told c.in-Ok.ensures.held c.in-Ok-exercise.ensures

pub returns-in-Err-exercise : goal.returns-in-Err-exercise
returns-in-Err-exercise g c = broken_by c.args.count c.requires.few _ _ _ _ _ _ _ _ c.in-Ok.ensures.told c.in-Ok.ensures.held c.in-Err-exercise.ensures

pub returns-in-Err : goal.returns-in-Err
returns-in-Err g c = broken_before c.args.count c.requires.few c.in-Err.err _ _ _ _ c.in-Err.ensures.told
