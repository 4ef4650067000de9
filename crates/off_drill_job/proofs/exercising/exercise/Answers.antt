use Rattle.std.proofs.lemmas.Result.{err_from_is_err_and}
use Rattle.off_drill_job.proofs.ExerciseLemmas.{exercised_none, exercised_then, stopped_then}
use Rattle.off_drill_job.proofs.exercising.exercise.Goals as goal

pub loop-k-init : goal.loop-k-init
loop-k-init g c = exercised_none _ _ _ _ _ _ (g.met.K.Keeper.rests c.args.keeper.now)

pub returns-in_err-serve_modem : goal.returns-in_err-serve_modem
returns-in_err-serve_modem g c =
    let p = err_from_is_err_and c.from_residual.result c.from_residual.ensures.1 in
    rw (p.1, p.2) (stopped_then c.loop-k.invariant c.in_err-serve_modem.ensures)

pub loop-k-preserved : goal.loop-k-preserved
loop-k-preserved g c = exercised_then c.loop-k.invariant c.in_ok-serve_modem.ensures
