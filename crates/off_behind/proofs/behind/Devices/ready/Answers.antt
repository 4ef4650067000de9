use Rattle.std.proofs.Common.{◌≡◌, List, arith, subst}
use Rattle.off_behind.specs.Buckets.{Bucket, leases_in}
use Rattle.off_behind.proofs.FollowLemmas.{same_leases}
use Rattle.off_behind.proofs.behind.Devices.ready.Goals as goal

pub returns-clause-kept : goal.returns-clause-kept
returns-clause-kept c =
    subst (λ (old : List Bucket). leases_in c.reserve_all.new.buckets.items ≡ leases_in old) c.self.view_is
    (same_leases c.reserve_all.new.buckets.items c.self.inside.buckets.items (omega (arith, c.reserve_all.ensures.len, c.self.invariant)) c.reserve_all.ensures.same)
