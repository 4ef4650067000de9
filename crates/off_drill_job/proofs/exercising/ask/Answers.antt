use Rattle.std.proofs.lemmas.Result.{err_from_is_err_and}
use Rattle.off_drill_job.proofs.ServingLemmas.{loses_at_once}
use Rattle.off_drill_job.proofs.exercising.ask.Goals as goal

pub returns-in_err-event : goal.returns-in_err-event
returns-in_err-event g c =
    let p = err_from_is_err_and c.from_residual.result c.from_residual.ensures.1 in
    rw (p.1, p.2) (loses_at_once _ _ _ (g.met.K.Keeper.rests c.args.keeper.now))
