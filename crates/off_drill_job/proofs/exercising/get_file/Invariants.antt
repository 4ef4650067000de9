use Rattle.off_drill_laws.specs.Stages.{Gets}
use Rattle.off_drill_job.specs.Exercising.{Exercised}
use Rattle.off_drill_job.proofs.exercising.get_file.Given as goal

abbrev pub invariant-loop-number : goal.invariant-loop-number
invariant-loop-number g l =
    Exercised l.fn.count (Gets l.fn.k 0) (Gets l.fn.k l.number) l.fn.office l.office (g.K.Keeper.seen l.fn.keeper) (g.K.Keeper.seen l.keeper) (g.L.Link.seen l.fn.link)
    (g.L.Link.seen l.link) l.fn.tally l.tally
