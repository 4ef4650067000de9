use Rattle.std.proofs.Common.{not, ◌∙◌}
use Rattle.off_base.specs.declared.addresses.Ip4.{Ip4}
use Rattle.off_defs.specs.declared.tables.DeviceLease.{DeviceLease}
use Rattle.off_behind.specs.Drops.{is_dropped}
use Rattle.off_behind.proofs.FollowLemmas.{gone_ahead, gone_behind}
use Rattle.off_behind.proofs.writing.forget_dropped.Goals as goal

pub loop-place-preserved : goal.loop-place-preserved
loop-place-preserved c =
    let was = c.loop-place.invariant in
    let left = c.forget_all_in.ensures.left in
    let first = c.args.buckets.now.items in
    let mid = c.loop-place.buckets.items in
    let new = c.forget_all_in.new.buckets.items in
    let keeps = λ (entry : Ip4 × DeviceLease). not (is_dropped c.args.writes.now c.args.ends entry.0) in
    record {
      len = c.forget_all_in.ensures.len ∙ was.len;
      behind = gone_behind keeps c.loop-place.place first mid new left.leases_are was.ahead was.behind;
      ahead = gone_ahead keeps c.loop-place.place first mid new left.leases_are was.ahead;
    }
