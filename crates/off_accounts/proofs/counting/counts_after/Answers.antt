use Rattle.std.proofs.Common.{sym, ap, ◌∙◌}
use Rattle.off_outside.proofs.KeeperLemmas.{reads_none}
use Rattle.off_orders.specs.declared.orders.Command.TheVariants.{PutHub, PutSubscriber, PutAddOn, PutModem, PutClass, PutPool, PutDevicePool}
use Rattle.off_orders.specs.Sound.{is_sound}
use Rattle.off_accounts.proofs.AfterLemmas.{counted_as, hub_put, subscriber_put, add_on_put, modem_put, class_put, pool_put, device_pool_put}
use Rattle.off_accounts.proofs.counting.counts_after.Goals as goal

pub returns-in-PutSubscriber-clause-told : goal.returns-in-PutSubscriber-clause-told
returns-in-PutSubscriber-clause-told g c = reads_none (λ t.
    counted_as c.args.counts.now c.counts_put.result c.args.subject.now t c.args.c.now (PutSubscriber c.in-PutSubscriber.field-0 c.in-PutSubscriber.field-1) c.in-PutSubscriber.is
    (subscriber_put c.args.counts.now c.counts_put.result c.args.subject.now t c.in-PutSubscriber.field-0 c.in-PutSubscriber.field-1 (sym (ap is_sound c.in-PutSubscriber.is) ∙ c.requires) c.counts_put.ensures))

pub returns-in-PutAddOn-clause-told : goal.returns-in-PutAddOn-clause-told
returns-in-PutAddOn-clause-told g c = reads_none (λ t.
    counted_as c.args.counts.now c.counts_put-in-PutAddOn.result c.args.subject.now t c.args.c.now (PutAddOn c.in-PutAddOn.field-0 c.in-PutAddOn.field-1 c.in-PutAddOn.field-2) c.in-PutAddOn.is
    (add_on_put c.args.counts.now c.counts_put-in-PutAddOn.result c.args.subject.now t c.in-PutAddOn.field-0 c.in-PutAddOn.field-1 c.in-PutAddOn.field-2 (sym (ap is_sound c.in-PutAddOn.is) ∙ c.requires) c.counts_put-in-PutAddOn.ensures))

pub returns-in-PutModem-clause-told : goal.returns-in-PutModem-clause-told
returns-in-PutModem-clause-told g c = reads_none (λ t.
    counted_as c.args.counts.now c.counts_put-in-PutModem.result c.args.subject.now t c.args.c.now (PutModem c.in-PutModem.field-0 c.in-PutModem.field-1) c.in-PutModem.is
    (modem_put c.args.counts.now c.counts_put-in-PutModem.result c.args.subject.now t c.in-PutModem.field-0 c.in-PutModem.field-1 c.counts_put-in-PutModem.ensures))

pub returns-in-PutClass-clause-told : goal.returns-in-PutClass-clause-told
returns-in-PutClass-clause-told g c = reads_none (λ t.
    counted_as c.args.counts.now c.counts_put-in-PutClass.result c.args.subject.now t c.args.c.now (PutClass c.in-PutClass.field-0 c.in-PutClass.field-1) c.in-PutClass.is
    (class_put c.args.counts.now c.counts_put-in-PutClass.result c.args.subject.now t c.in-PutClass.field-0 c.in-PutClass.field-1 c.counts_put-in-PutClass.ensures))

pub returns-in-PutPool-clause-told : goal.returns-in-PutPool-clause-told
returns-in-PutPool-clause-told g c = reads_none (λ t.
    counted_as c.args.counts.now c.counts_put-in-PutPool.result c.args.subject.now t c.args.c.now (PutPool c.in-PutPool.field-0 c.in-PutPool.field-1 c.in-PutPool.field-2) c.in-PutPool.is
    (pool_put c.args.counts.now c.counts_put-in-PutPool.result c.args.subject.now t c.in-PutPool.field-0 c.in-PutPool.field-1 c.in-PutPool.field-2 (sym (ap is_sound c.in-PutPool.is) ∙ c.requires) c.counts_put-in-PutPool.ensures))

pub returns-in-PutDevicePool-clause-told : goal.returns-in-PutDevicePool-clause-told
returns-in-PutDevicePool-clause-told g c = reads_none (λ t.
    counted_as c.args.counts.now c.counts_put-in-PutDevicePool.result c.args.subject.now t c.args.c.now (PutDevicePool c.in-PutDevicePool.field-0 c.in-PutDevicePool.field-1) c.in-PutDevicePool.is
    (device_pool_put c.args.counts.now c.counts_put-in-PutDevicePool.result c.args.subject.now t c.in-PutDevicePool.field-0 c.in-PutDevicePool.field-1 (sym (ap is_sound c.in-PutDevicePool.is) ∙ c.requires) c.counts_put-in-PutDevicePool.ensures))

pub returns-in-PutHub-clause-told : goal.returns-in-PutHub-clause-told
returns-in-PutHub-clause-told g c = reads_none (λ t.
    counted_as c.args.counts.now c.counts_put_hub.result c.args.subject.now t c.args.c.now (PutHub c.in-PutHub.field-0 c.in-PutHub.site) c.in-PutHub.is
    (hub_put c.args.counts.now c.counts_put_hub.result c.args.subject.now t c.in-PutHub.field-0 c.in-PutHub.site c.counts_put_hub.ensures.fits c.counts_put_hub.ensures.put))

pub returns-in-Show-clause-told : goal.returns-in-Show-clause-told
returns-in-Show-clause-told g c = reads_none (λ t.
    counted_as c.args.counts.now c.args.counts.now c.args.subject.now t c.args.c.now _ c.in-Show.is (λ now agree stands none. agree))

pub returns-in-Import-clause-told : goal.returns-in-Import-clause-told
returns-in-Import-clause-told g c = reads_none (λ t.
    counted_as c.args.counts.now c.args.counts.now c.args.subject.now t c.args.c.now _ c.in-Import.is (λ now agree stands none. agree))
