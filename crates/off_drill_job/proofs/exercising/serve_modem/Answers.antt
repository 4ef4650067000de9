use Rattle.std.proofs.Common.{inl, ◌+◌}
use Rattle.std.proofs.lemmas.Result.{err_from_is_err_and}
use Rattle.off_drill_laws.specs.Stages.{Waits, Gets}
use Rattle.off_drill_job.proofs.ExerciseLemmas.{exercised_none, exercised_then, stopped_behind}
use Rattle.off_drill_job.proofs.ServingLemmas.{had_offer, no_offer, had_lease, no_lease, had_file, no_file, ends_serving}
use Rattle.off_drill_job.proofs.exercising.serve_modem.Goals as goal

pub returns-in_err-is_offered : goal.returns-in_err-is_offered
returns-in_err-is_offered g c =
    let p = err_from_is_err_and c.from_residual.result c.from_residual.ensures.1 in
    rw (p.1, p.2) (stopped_behind (exercised_none c.args.count (Waits c.args.k) _ _ _ c.args.tally.now (g.met.K.Keeper.rests c.args.keeper.now)) c.in_err-is_offered.ensures (inl c.requires.more))

pub returns-then-not-is_offered : goal.returns-then-not-is_offered
returns-then-not-is_offered g c = no_offer c.args.count c.args.k c.requires.more c.requires.few _ _ _ _ _ _ _ _ _ c.in_ok-is_offered.ensures c.if-not-is_offered.true

pub returns-in_err-is_leased : goal.returns-in_err-is_leased
returns-in_err-is_leased g c =
    let p = err_from_is_err_and c.from_residual-in_err-is_leased.result c.from_residual-in_err-is_leased.ensures.1 in
    rw (p.1, p.2)
    (stopped_behind (had_offer c.args.count c.args.k c.requires.more c.requires.few _ _ _ _ _ _ _ _ _ c.in_ok-is_offered.ensures) c.in_err-is_leased.ensures (inl c.requires.more))

pub returns-then-not-is_leased : goal.returns-then-not-is_leased
returns-then-not-is_leased g c =
    exercised_then (had_offer c.args.count c.args.k c.requires.more c.requires.few _ _ _ _ _ _ _ _ _ c.in_ok-is_offered.ensures)
    (no_lease c.args.count c.args.k c.requires.more c.requires.few _ _ _ _ _ _ _ _ _ c.in_ok-is_leased.ensures c.if-not-is_leased.true)

pub returns-in_err-is_begun : goal.returns-in_err-is_begun
returns-in_err-is_begun g c =
    let p = err_from_is_err_and c.from_residual-in_err-is_begun.result c.from_residual-in_err-is_begun.ensures.1 in
    rw (p.1, p.2)
    (stopped_behind
    (exercised_then (had_offer c.args.count c.args.k c.requires.more c.requires.few _ _ _ _ _ _ _ _ _ c.in_ok-is_offered.ensures)
    (had_lease c.args.count c.args.k c.requires.more c.requires.few _ _ _ _ _ _ _ _ _ c.in_ok-is_leased.ensures))
    c.in_err-is_begun.ensures (inl c.requires.more))

pub returns-then-not-is_begun : goal.returns-then-not-is_begun
returns-then-not-is_begun g c =
    exercised_then
    (exercised_then (had_offer c.args.count c.args.k c.requires.more c.requires.few _ _ _ _ _ _ _ _ _ c.in_ok-is_offered.ensures)
    (had_lease c.args.count c.args.k c.requires.more c.requires.few _ _ _ _ _ _ _ _ _ c.in_ok-is_leased.ensures))
    (no_file c.args.count c.args.k c.requires.more c.requires.few _ _ _ _ _ _ _ _ _ c.in_ok-is_begun.ensures c.if-not-is_begun.true)

pub returns : goal.returns
returns g c =
    ends_serving c.get_file.result c.args.count (Waits c.args.k) (Gets c.args.k 0) (Waits (c.args.k + 1)) _ _ _ _ _ _ _ _ _ _ _ _
    (exercised_then
    (exercised_then (had_offer c.args.count c.args.k c.requires.more c.requires.few _ _ _ _ _ _ _ _ _ c.in_ok-is_offered.ensures)
    (had_lease c.args.count c.args.k c.requires.more c.requires.few _ _ _ _ _ _ _ _ _ c.in_ok-is_leased.ensures))
    (had_file c.args.count c.args.k c.requires.more c.requires.few _ _ _ _ _ _ _ _ _ c.in_ok-is_begun.ensures))
    c.get_file.ensures
