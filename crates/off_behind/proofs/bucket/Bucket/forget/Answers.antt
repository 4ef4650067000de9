use Rattle.std.proofs.Common.{not, rules, ap, ◌∙◌}
use Rattle.std.specs.Ordering.{eq_by_cmp}
use Rattle.std.proofs.lemmas.Fn.{filter_same}
use Rattle.off_base.specs.declared.addresses.Ip4.{Ip4}
use Rattle.off_defs.specs.declared.tables.DeviceLease.{DeviceLease}
use Rattle.off_behind.specs.Buckets.{Bucket}
use Rattle.off_behind.specs.Changes.{by_address, without_address}
use Rattle.off_behind.proofs.bucket.Bucket.forget.Goals as goal

pub returns-clause-leases : goal.returns-clause-leases
returns-clause-leases c =
    filter_same _ (λ (entry : Ip4 × DeviceLease). not (eq_by_cmp by_address c.args.address entry.0)) _ (λ x b f' k. search rules) _ _ c.retain.ensures.filtered
    ∙ ap (λ (b : Bucket). without_address c.args.address b.0) c.self.view_is
