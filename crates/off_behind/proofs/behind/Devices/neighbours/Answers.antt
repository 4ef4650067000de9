use Rattle.std.proofs.Common.{◌≡◌, ap, ◌∙◌, subst}
use Rattle.off_account_rules.specs.Rows.{devices}
use Rattle.off_behind.specs.Buckets.{Leases, bucket_of}
use Rattle.off_behind.specs.Neighbours.{AreNeighbours}
use Rattle.off_behind.proofs.BucketLemmas.{neighbours_in_bucket, bucket_low}
use Rattle.off_behind.proofs.NeighbourLemmas.{own_stands}
use Rattle.off_behind.proofs.behind.Devices.neighbours.Goals as goal

pub returns-clause-are : goal.returns-clause-are
returns-clause-are c leases stands =
    neighbours_in_bucket c.args.now.0 c.args.modem c.args.device leases c.neighbours_among.result
    (subst (λ (ls : Leases). AreNeighbours c.neighbours_among.result c.args.now.0 c.args.modem c.args.device ls) (c.bucket.ensures ∙ stands (bucket_of c.args.modem) (bucket_low c.args.modem)) c.neighbours_among.ensures)

pub returns-clause-stands : goal.returns-clause-stands
returns-clause-stands c t stands =
    own_stands t c.args.now.0 c.args.modem c.args.device c.neighbours_among.result (returns-clause-are c (devices t) stands)
