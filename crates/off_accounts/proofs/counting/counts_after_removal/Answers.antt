use Rattle.off_outside.proofs.KeeperLemmas.{reads_as, reads_none}
use Rattle.off_defs.specs.declared.keys.Key.TheVariants as key
use Rattle.off_accounts.proofs.AfterLemmas.{removed_as, subscriber_removed, add_on_removed, modem_removed, class_removed, pool_removed, device_pool_removed, hub_removed}
use Rattle.off_accounts.proofs.counting.counts_after_removal.Goals as goal

pub returns-in_ok-lost-in-Subscriber-clause-told : goal.returns-in_ok-lost-in-Subscriber-clause-told
returns-in_ok-lost-in-Subscriber-clause-told g c =
    reads_as c.in_ok-lost-in-Subscriber.ensures.told (λ t lost.
    removed_as c.args.counts.now c.fewer_add_ons.result t c.args.key.now (key.Subscriber c.in-Subscriber.n) c.in-Subscriber.is
    (subscriber_removed c.args.counts.now c.fewer_add_ons.result t c.in-Subscriber.n c.in_ok-lost-in-Subscriber.lost c.one_less.result lost c.one_less.ensures c.fewer_add_ons.ensures))

pub returns-in-AddOn-clause-told : goal.returns-in-AddOn-clause-told
returns-in-AddOn-clause-told g c = reads_none (λ t.
    removed_as c.args.counts.now c.one_less-in-AddOn.result t c.args.key.now (key.AddOn c.in-AddOn.field-0 c.in-AddOn.field-1) c.in-AddOn.is
    (add_on_removed c.args.counts.now c.one_less-in-AddOn.result t c.in-AddOn.field-0 c.in-AddOn.field-1 c.one_less-in-AddOn.ensures))

pub returns-in-Modem-clause-told : goal.returns-in-Modem-clause-told
returns-in-Modem-clause-told g c = reads_none (λ t.
    removed_as c.args.counts.now c.one_less-in-Modem.result t c.args.key.now (key.Modem c.in-Modem.field-0) c.in-Modem.is
    (modem_removed c.args.counts.now c.one_less-in-Modem.result t c.in-Modem.field-0 c.one_less-in-Modem.ensures))

pub returns-in-Class-clause-told : goal.returns-in-Class-clause-told
returns-in-Class-clause-told g c = reads_none (λ t.
    removed_as c.args.counts.now c.one_less-in-Class.result t c.args.key.now (key.Class c.in-Class.field-0) c.in-Class.is
    (class_removed c.args.counts.now c.one_less-in-Class.result t c.in-Class.field-0 c.one_less-in-Class.ensures))

pub returns-in-Pool-clause-told : goal.returns-in-Pool-clause-told
returns-in-Pool-clause-told g c = reads_none (λ t.
    removed_as c.args.counts.now c.one_less-in-Pool.result t c.args.key.now (key.Pool c.in-Pool.field-0) c.in-Pool.is
    (pool_removed c.args.counts.now c.one_less-in-Pool.result t c.in-Pool.field-0 c.one_less-in-Pool.ensures))

pub returns-in-DevicePool-clause-told : goal.returns-in-DevicePool-clause-told
returns-in-DevicePool-clause-told g c = reads_none (λ t.
    removed_as c.args.counts.now c.one_less-in-DevicePool.result t c.args.key.now (key.DevicePool c.in-DevicePool.field-0) c.in-DevicePool.is
    (device_pool_removed c.args.counts.now c.one_less-in-DevicePool.result t c.in-DevicePool.field-0 c.one_less-in-DevicePool.ensures))

pub returns-in-Hub-clause-told : goal.returns-in-Hub-clause-told
returns-in-Hub-clause-told g c = reads_none (λ t.
    removed_as c.args.counts.now c.one_less-in-Hub.result t c.args.key.now (key.Hub c.in-Hub.field-0) c.in-Hub.is
    (hub_removed c.args.counts.now c.one_less-in-Hub.result t c.in-Hub.field-0 c.one_less-in-Hub.ensures))
