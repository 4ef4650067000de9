use Rattle.std.proofs.Common.{not, ◌∙◌, arith}
use Rattle.std.specs.Ordering.{eq_by_cmp}
use Rattle.off_base.specs.declared.addresses.Ip4.{Ip4}
use Rattle.off_defs.specs.declared.tables.DeviceLease.{DeviceLease}
use Rattle.off_behind.specs.Changes.{by_address}
use Rattle.off_behind.proofs.FollowLemmas.{gone_ahead, gone_behind, gone_few}
use Rattle.off_behind.proofs.writing.forget_everywhere.Goals as goal

pub loop-place-preserved : goal.loop-place-preserved
loop-place-preserved c =
    let was = c.loop-place.invariant in
    let left = c.forget_in.ensures.left in
    let first = c.args.buckets.now.items in
    let mid = c.loop-place.buckets.items in
    let new = c.forget_in.new.buckets.items in
    let keeps = λ (entry : Ip4 × DeviceLease). not (eq_by_cmp by_address c.args.address entry.0) in
    record {
      len = c.forget_in.ensures.len ∙ was.len;
      behind = gone_behind keeps c.loop-place.place first mid new left.leases_are was.ahead was.behind;
      ahead = gone_ahead keeps c.loop-place.place first mid new left.leases_are was.ahead;
      few = gone_few keeps c.loop-place.place first mid new left.leases_are was.ahead was.few;
      rooms = λ p. omega (arith, was.rooms p, left.rooms p);
    }
