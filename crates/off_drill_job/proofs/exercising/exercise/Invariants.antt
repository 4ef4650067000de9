use Rattle.off_drill_laws.specs.Stages.{Waits}
use Rattle.off_drill_job.specs.Exercising.{Exercised}
use Rattle.off_drill_job.proofs.exercising.exercise.Given as goal

abbrev pub invariant-loop-k : goal.invariant-loop-k
invariant-loop-k g l =
    Exercised l.fn.count (Waits 0) (Waits l.k) l.fn.office l.office (g.K.Keeper.seen l.fn.keeper) (g.K.Keeper.seen l.keeper) (g.L.Link.seen l.fn.link) (g.L.Link.seen l.link)
    l.fn.tally l.tally
