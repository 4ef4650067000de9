use Rattle.std.proofs.Common.{inl}
use Rattle.std.proofs.lemmas.Result.{err_from_is_err_and}
use Rattle.off_drill_job.proofs.ExerciseLemmas.{exercised_none, exercised_then, stopped_behind}
use Rattle.off_drill_job.proofs.ServingLemmas.{had_block, had_all, never_so_many}
use Rattle.off_drill_job.proofs.exercising.get_file.Goals as goal

pub loop-number-init : goal.loop-number-init
loop-number-init g c = exercised_none _ _ _ _ _ _ (g.met.K.Keeper.rests c.args.keeper.now)

pub returns-in_err-has_all : goal.returns-in_err-has_all
returns-in_err-has_all g c =
    let p = err_from_is_err_and c.from_residual.result c.from_residual.ensures.1 in
    rw (p.1, p.2) (stopped_behind c.loop-number.invariant c.in_err-has_all.ensures (inl c.requires.more))

pub returns-then-has_all : goal.returns-then-has_all
returns-then-has_all g c =
    exercised_then c.loop-number.invariant
    (had_all c.args.count c.args.k c.requires.more c.requires.few _ _ _ _ _ _ _ _ _ c.loop-number.number c.in_ok-has_all.ensures c.if-has_all.true)

pub loop-number-preserved : goal.loop-number-preserved
loop-number-preserved g c =
    exercised_then c.loop-number.invariant
    (had_block c.args.count c.args.k c.requires.more c.requires.few _ _ _ _ _ _ _ _ _ c.loop-number.number c.in_ok-has_all.ensures c.if-has_all.false)

pub returns : goal.returns
returns g c = never_so_many c.loop-number.invariant c.loop-number-test.false
