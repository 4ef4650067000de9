-- Which rows a clerk is shown: all but what a modem holds, the batches, the hubs of pools and the
-- leases of devices, which are the office's own.
use Rattle.std.specs.Prelude.{Option, Some, None}
use Rattle.off_defs.specs.declared.tables.Row.{Row}
use Rattle.off_defs.specs.declared.tables.Row.TheVariants as row
use Rattle.off_orders.specs.declared.shown.ShownRow.{ShownRow}
use Rattle.off_orders.specs.declared.shown.ShownRow.TheVariants as seen

abbrev pub shown_row : Row → Option ShownRow
shown_row (row.Site site) = Some (seen.Site site)
shown_row (row.Subscriber subscriber) = Some (seen.Subscriber subscriber)
shown_row (row.AddOn settings) = Some (seen.AddOn settings)
shown_row (row.Modem modem) = Some (seen.Modem modem)
shown_row (row.Class class) = Some (seen.Class class)
shown_row (row.Pool pool) = Some (seen.Pool pool)
shown_row (row.Lease lease) = Some (seen.Lease lease)
shown_row (row.Held address) = None
shown_row (row.Batch batch) = None
shown_row (row.PoolHub hub) = None
shown_row (row.Device lease) = None
