use Rattle.std.proofs.Common.{◌<◌, ◌+◌, length, arith, ◌∙◌}
use Rattle.std.proofs.lemmas.List.{take_all}
use Rattle.std.proofs.lemmas.Result.{err_from_is_err_and}
use Rattle.off_outside.proofs.KeeperLemmas.{reads_then, reads_as, reads_forgotten, failed_then}
use Rattle.off_behind.specs.Changes.{olds_of}
use Rattle.off_behind.proofs.FormerLemmas.{olds_grow, length-olds, spent_grows, spent_in_all}
use Rattle.off_behind.proofs.formers.read_olds.Goals as goal

pub returns-in_err-old-clause-told : goal.returns-in_err-old-clause-told
returns-in_err-old-clause-told g c =
    let p = err_from_is_err_and c.from_residual.result c.from_residual.ensures.1 in
    rw (p.1, p.2) (failed_then c.loop-place.invariant.read c.in_err-old.ensures.told)

pub returns-in_err-push_old-clause-told : goal.returns-in_err-push_old-clause-told
returns-in_err-push_old-clause-told g c =
    let p = err_from_is_err_and c.from_residual-in_err-push_old.result c.from_residual-in_err-push_old.ensures.1 in
    rw (p.1, p.2) (reads_forgotten (reads_then {R = λ t. Unit {0}} c.loop-place.invariant.read c.in_ok-old.ensures.told (λ t so_far old. tt)))

pub loop-place-preserved : goal.loop-place-preserved
loop-place-preserved g c =
    let within : c.loop-place.place < length c.args.writes.now = omega (arith, c.loop-place-test.true, c.len-place-end.ensures) in
    record {
      read =
          reads_then c.loop-place.invariant.read c.in_ok-old.ensures.told (λ t so_far old stands.
          c.in_ok-push_old.ensures.items ∙ olds_grow t c.args.writes.now c.loop-place.place c.in_ok-old.old c.loop-place.olds.items within (old stands) (so_far stands));
      len = omega (arith, c.in_ok-push_old.ensures.len, c.loop-place.invariant.len);
      within = omega (arith, c.loop-place-test.true, c.len-place-end.ensures);
      spent = spent_grows c.args.known c.args.writes.now c.loop-place.place within c.loop-place.invariant.spent c.in_ok-old.ensures.spent;
    }

pub returns-clause-told : goal.returns-clause-told
returns-clause-told g c =
    reads_as c.loop-place.invariant.read (λ t so_far stands.
    so_far stands ∙ take_all c.loop-place.place (olds_of t c.args.writes.now) (omega (arith, length-olds t c.args.writes.now, c.loop-place-test.false, c.len-place-end.ensures)))

pub returns-clause-spent : goal.returns-clause-spent
returns-clause-spent g c = spent_in_all c.args.known c.args.writes.now c.loop-place.place c.loop-place.invariant.spent

pub returns-in_err-old-clause-spent : goal.returns-in_err-old-clause-spent
returns-in_err-old-clause-spent g c =
    spent_in_all c.args.known c.args.writes.now (c.loop-place.place + 1)
    (spent_grows c.args.known c.args.writes.now c.loop-place.place (omega (arith, c.loop-place-test.true, c.len-place-end.ensures)) c.loop-place.invariant.spent c.in_err-old.ensures.spent)

pub returns-in_err-push_old-clause-spent : goal.returns-in_err-push_old-clause-spent
returns-in_err-push_old-clause-spent g c =
    spent_in_all c.args.known c.args.writes.now (c.loop-place.place + 1)
    (spent_grows c.args.known c.args.writes.now c.loop-place.place (omega (arith, c.loop-place-test.true, c.len-place-end.ensures)) c.loop-place.invariant.spent c.in_ok-old.ensures.spent)
