use Rattle.off_behind.proofs.PlaceLemmas.{taken_by, on_ok_as}
use Rattle.off_behind.proofs.reading.take_lease.Goals as goal

pub returns-in-Some-clause-taken : goal.returns-in-Some-clause-taken
returns-in-Some-clause-taken c =
    on_ok_as c.push_to.result (λ becomes place within.
    taken_by _ _ c.args.address c.args.lease c.in-Some.owner c.bucket_of.result c.in-Some.ensures c.bucket_of.ensures.place becomes place)
    c.push_to.ensures.items
