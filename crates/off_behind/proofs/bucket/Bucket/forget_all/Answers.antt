use Rattle.std.proofs.Common.{not, rules, ap, ◌∙◌}
use Rattle.std.proofs.lemmas.Fn.{filter_same}
use Rattle.off_base.specs.declared.addresses.Ip4.{Ip4}
use Rattle.off_defs.specs.declared.tables.DeviceLease.{DeviceLease}
use Rattle.off_behind.specs.Buckets.{Bucket}
use Rattle.off_behind.specs.Drops.{is_dropped, without_dropped}
use Rattle.off_behind.proofs.bucket.Bucket.forget_all.Goals as goal

pub returns-clause-leases : goal.returns-clause-leases
returns-clause-leases c =
    filter_same _ (λ (entry : Ip4 × DeviceLease). not (is_dropped c.args.writes.now c.args.ends entry.0)) _ (λ x b f' k. search rules) _ _ c.retain.ensures.filtered
    ∙ ap (λ (b : Bucket). without_dropped c.args.writes.now c.args.ends b.0) c.self.view_is
