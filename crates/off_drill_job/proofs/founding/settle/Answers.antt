use Rattle.std.proofs.lemmas.Result.{err_from_is_err_and}
use Rattle.off_drill_job.proofs.FoundingLemmas.{settles, settled_first, gave_as, halts_of, ends_as}
use Rattle.off_drill_job.proofs.founding.settle.Goals as goal

pub returns-in_err-give-clause-told : goal.returns-in_err-give-clause-told
returns-in_err-give-clause-told g c =
    let p = err_from_is_err_and c.from_residual.result c.from_residual.ensures.1 in
    rw (p.1, p.2) (settled_first c.args.k (halts_of c.put_subscriber.ensures c.in_err-give.ensures.told))

pub returns-clause-told : goal.returns-clause-told
returns-clause-told g c =
    settles c.args.k c.give-2.result _ _ _ _ _ _ c.requires.few (gave_as c.put_subscriber.ensures c.in_ok-give.ensures.told) (ends_as c.give-2.result _ _ _ _ _ _ c.put_modem.ensures c.give-2.ensures.told)
