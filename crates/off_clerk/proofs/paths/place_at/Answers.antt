use Rattle.off_clerk_rules.proofs.PathLemmas.{either_named}
use Rattle.off_clerk.proofs.paths.place_at.Goals as goal

pub returns-clause-named : goal.returns-clause-named
returns-clause-named c =
    either_named _ _ _ c.or-10.ensures
    (either_named _ _ _ c.or-9.ensures
    (either_named _ _ _ c.or-8.ensures
    (either_named _ _ _ c.or-7.ensures
    (either_named _ _ _ c.or-6.ensures
    (either_named _ _ _ c.or-5.ensures
    (either_named _ _ _ c.or-4.ensures
    (either_named _ _ _ c.or-3.ensures
    (either_named _ _ _ c.or-2.ensures
    (either_named _ _ _ c.or.ensures c.site_at.ensures.named c.hub_at.ensures.named) c.subscriber_at.ensures.named) c.add_on_at.ensures.named) c.modem_at.ensures.named)
    c.class_at.ensures.named)
    c.pool_at.ensures.named)
    c.device_pool_at.ensures.named)
    c.lease_at.ensures.named)
    c.subscribers_at.ensures.named)
    c.modems_at.ensures.named
