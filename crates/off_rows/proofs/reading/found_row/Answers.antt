use Rattle.std.proofs.lemmas.Result.{err_from_is_err_and}
use Rattle.off_defs.specs.declared.keys.Key.TheVariants as key
use Rattle.off_rows.proofs.Rows.{why_bad, why_no_add_on, why_no_class}
use Rattle.off_rows.proofs.reading.found_row.Goals as goal

pub returns-in_err-site-in-Site : goal.returns-in_err-site-in-Site
returns-in_err-site-in-Site c =
    let p = err_from_is_err_and c.from_residual.result c.from_residual.ensures.1 in
    rw (p.1, p.2, c.in-Site.is) (why_bad key.Site c.args.bytes.now c.in_err-site-in-Site.field-0.0 c.in_err-site-in-Site.ensures)

pub returns-in_err-subscriber-in-Subscriber : goal.returns-in_err-subscriber-in-Subscriber
returns-in_err-subscriber-in-Subscriber c =
    let p = err_from_is_err_and c.from_residual-in_err-subscriber-in-Subscriber.result c.from_residual-in_err-subscriber-in-Subscriber.ensures.1 in
    rw (p.1, p.2, c.in-Subscriber.is) (why_bad (key.Subscriber c.in-Subscriber.field-0) c.args.bytes.now c.in_err-subscriber-in-Subscriber.field-0.0 c.in_err-subscriber-in-Subscriber.ensures)

pub returns-in_err-add_on-in-AddOn : goal.returns-in_err-add_on-in-AddOn
returns-in_err-add_on-in-AddOn c =
    let p = err_from_is_err_and c.from_residual-in_err-add_on-in-AddOn.result c.from_residual-in_err-add_on-in-AddOn.ensures.1 in
    rw (p.1, p.2, c.in-AddOn.is) (why_no_add_on c.in-AddOn.field-0 c.in-AddOn.field-1 c.args.bytes.now c.in_err-add_on-in-AddOn.field-0.0 c.in_err-add_on-in-AddOn.ensures)

pub returns-in_err-modem-in-Modem : goal.returns-in_err-modem-in-Modem
returns-in_err-modem-in-Modem c =
    let p = err_from_is_err_and c.from_residual-in_err-modem-in-Modem.result c.from_residual-in_err-modem-in-Modem.ensures.1 in
    rw (p.1, p.2, c.in-Modem.is) (why_bad (key.Modem c.in-Modem.field-0) c.args.bytes.now c.in_err-modem-in-Modem.field-0.0 c.in_err-modem-in-Modem.ensures)

pub returns-in_err-class-in-Class : goal.returns-in_err-class-in-Class
returns-in_err-class-in-Class c =
    let p = err_from_is_err_and c.from_residual-in_err-class-in-Class.result c.from_residual-in_err-class-in-Class.ensures.1 in
    rw (p.1, p.2, c.in-Class.is) (why_no_class c.in-Class.field-0 c.args.bytes.now c.in_err-class-in-Class.field-0.0 c.in_err-class-in-Class.ensures)

pub returns-in_err-pool-in-Pool : goal.returns-in_err-pool-in-Pool
returns-in_err-pool-in-Pool c =
    let p = err_from_is_err_and c.from_residual-in_err-pool-in-Pool.result c.from_residual-in_err-pool-in-Pool.ensures.1 in
    rw (p.1, p.2, c.in-Pool.is) (why_bad (key.Pool c.in-Pool.field-0) c.args.bytes.now c.in_err-pool-in-Pool.field-0.0 c.in_err-pool-in-Pool.ensures)

pub returns-in_err-lease-in-Lease : goal.returns-in_err-lease-in-Lease
returns-in_err-lease-in-Lease c =
    let p = err_from_is_err_and c.from_residual-in_err-lease-in-Lease.result c.from_residual-in_err-lease-in-Lease.ensures.1 in
    rw (p.1, p.2, c.in-Lease.is) (why_bad (key.Lease c.in-Lease.field-0) c.args.bytes.now c.in_err-lease-in-Lease.field-0.0 c.in_err-lease-in-Lease.ensures)

pub returns-in_err-held-in-Held : goal.returns-in_err-held-in-Held
returns-in_err-held-in-Held c =
    let p = err_from_is_err_and c.from_residual-in_err-held-in-Held.result c.from_residual-in_err-held-in-Held.ensures.1 in
    rw (p.1, p.2, c.in-Held.is) (why_bad (key.Held c.in-Held.field-0) c.args.bytes.now c.in_err-held-in-Held.field-0.0 c.in_err-held-in-Held.ensures)

pub returns-in_err-batch-in-Batch : goal.returns-in_err-batch-in-Batch
returns-in_err-batch-in-Batch c =
    let p = err_from_is_err_and c.from_residual-in_err-batch-in-Batch.result c.from_residual-in_err-batch-in-Batch.ensures.1 in
    rw (p.1, p.2, c.in-Batch.is) (why_bad (key.Batch c.in-Batch.field-0) c.args.bytes.now c.in_err-batch-in-Batch.field-0.0 c.in_err-batch-in-Batch.ensures)

pub returns-in_err-site-in-Hub : goal.returns-in_err-site-in-Hub
returns-in_err-site-in-Hub c =
    let p = err_from_is_err_and c.from_residual-in_err-site-in-Hub.result c.from_residual-in_err-site-in-Hub.ensures.1 in
    rw (p.1, p.2, c.in-Hub.is) (why_bad (key.Hub c.in-Hub.field-0) c.args.bytes.now c.in_err-site-in-Hub.field-0.0 c.in_err-site-in-Hub.ensures)

pub returns-in_err-pool_hub-in-PoolHub : goal.returns-in_err-pool_hub-in-PoolHub
returns-in_err-pool_hub-in-PoolHub c =
    let p = err_from_is_err_and c.from_residual-in_err-pool_hub-in-PoolHub.result c.from_residual-in_err-pool_hub-in-PoolHub.ensures.1 in
    rw (p.1, p.2, c.in-PoolHub.is) (why_bad (key.PoolHub c.in-PoolHub.field-0) c.args.bytes.now c.in_err-pool_hub-in-PoolHub.field-0.0 c.in_err-pool_hub-in-PoolHub.ensures)

pub returns-in_err-pool-in-DevicePool : goal.returns-in_err-pool-in-DevicePool
returns-in_err-pool-in-DevicePool c =
    let p = err_from_is_err_and c.from_residual-in_err-pool-in-DevicePool.result c.from_residual-in_err-pool-in-DevicePool.ensures.1 in
    rw (p.1, p.2, c.in-DevicePool.is) (why_bad (key.DevicePool c.in-DevicePool.field-0) c.args.bytes.now c.in_err-pool-in-DevicePool.field-0.0 c.in_err-pool-in-DevicePool.ensures)

pub returns-in_err-device-in-Device : goal.returns-in_err-device-in-Device
returns-in_err-device-in-Device c =
    let p = err_from_is_err_and c.from_residual-in_err-device-in-Device.result c.from_residual-in_err-device-in-Device.ensures.1 in
    rw (p.1, p.2, c.in-Device.is) (why_bad (key.Device c.in-Device.field-0) c.args.bytes.now c.in_err-device-in-Device.field-0.0 c.in_err-device-in-Device.ensures)
