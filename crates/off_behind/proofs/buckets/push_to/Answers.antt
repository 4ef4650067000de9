use Rattle.std.proofs.Common.{◌<◌, ◌∷◌, [], ◌++◌, length, arith, ap, ◌∙◌}
use Rattle.off_behind.specs.Buckets.{Leases, Bucket}
use Rattle.off_behind.proofs.PlaceLemmas.{becomes_set, on_ok_as, seen_at}
use Rattle.off_behind.proofs.buckets.push_to.Goals as goal

pub returns-clause-items : goal.returns-clause-items
returns-clause-items c =
    let within : c.args.place < length c.args.buckets.now.items = omega (arith, c.requires) in
    let was = seen_at c.args.buckets.now.items c.args.place c.index_mut.result.now within c.index_mut.ensures.value in
    let room = ap (λ (b : Bucket). b.1) was in
    on_ok_as c.push.result (λ pushed.
    becomes_set c.args.buckets.now.items c.args.place c.push.new.self _ within
    (pushed ∙ ap (λ (xs : Leases). xs ++ (c.args.address, c.args.lease) ∷ []) (ap (λ (b : Bucket). b.0) was)) (omega (arith, room, c.push.ensures.room)))
    c.push.ensures.leases
