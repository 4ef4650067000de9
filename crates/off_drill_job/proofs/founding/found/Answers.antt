use Rattle.std.proofs.lemmas.Result.{err_from_is_err_and}
use Rattle.off_drill_job.proofs.FoundingLemmas.{founds, site_halts, class_halts, pool_halts, gave_as, halts_of}
use Rattle.off_drill_job.proofs.founding.found.Goals as goal

pub returns-in_err-give-clause-told : goal.returns-in_err-give-clause-told
returns-in_err-give-clause-told g c =
    let p = err_from_is_err_and c.from_residual.result c.from_residual.ensures.1 in
    rw (p.1, p.2) (site_halts c.args.count (halts_of c.put_hub.ensures c.in_err-give.ensures.told))

pub returns-in_err-give_class-clause-told : goal.returns-in_err-give_class-clause-told
returns-in_err-give_class-clause-told g c =
    let p = err_from_is_err_and c.from_residual-in_err-give_class.result c.from_residual-in_err-give_class.ensures.1 in
    rw (p.1, p.2) (class_halts c.args.count (gave_as c.put_hub.ensures c.in_ok-give.ensures.told) c.in_err-give_class.ensures.told)

pub returns-in_err-give-2-clause-told : goal.returns-in_err-give-2-clause-told
returns-in_err-give-2-clause-told g c =
    let p = err_from_is_err_and c.from_residual-in_err-give-2.result c.from_residual-in_err-give-2.ensures.1 in
    rw (p.1, p.2) (pool_halts c.args.count (gave_as c.put_hub.ensures c.in_ok-give.ensures.told) c.in_ok-give_class.ensures.told (halts_of c.put_pool.ensures c.in_err-give-2.ensures.told))

pub returns-clause-told : goal.returns-clause-told
returns-clause-told g c =
    founds c.args.count c.people.result _ _ _ _ _ _ _ _ _ _ (gave_as c.put_hub.ensures c.in_ok-give.ensures.told) c.in_ok-give_class.ensures.told
    (gave_as c.put_pool.ensures c.in_ok-give-2.ensures.told) c.people.ensures.told
