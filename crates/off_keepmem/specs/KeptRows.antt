-- The row that is kept in a form.
use Rattle.off_defs.specs.declared.tables.Modem.{Modem}
use Rattle.off_defs.specs.declared.tables.Subscriber.{Subscriber}
use Rattle.off_defs.specs.declared.tables.Row.{Row}
use Rattle.off_defs.specs.declared.tables.Row.TheVariants as row
use Rattle.off_keepmem.specs.declared.brief_rows.BriefModem.{BriefModem}
use Rattle.off_keepmem.specs.declared.brief_rows.BriefSubscriber.{BriefSubscriber}
use Rattle.off_keepmem.specs.declared.kept_row.RowForm.{RowForm}
use Rattle.off_keepmem.specs.declared.kept_row.RowForm.TheVariants as form

abbrev pub modem_kept : BriefModem → Modem
modem_kept m = record { subscriber = m.subscriber; class = m.class; serial = m.serial }

abbrev pub subscriber_kept : BriefSubscriber → Subscriber
subscriber_kept s = record { active = s.active; cpes = s.cpes; name = s.name }

abbrev pub row_kept : RowForm → Row
row_kept (form.Lease lease) = row.Lease lease
row_kept (form.Held address) = row.Held address
row_kept (form.PoolHub hub) = row.PoolHub hub
row_kept (form.Device lease) = row.Device lease
row_kept (form.Modem modem) = row.Modem (modem_kept modem)
row_kept (form.Subscriber subscriber) = row.Subscriber (subscriber_kept subscriber)
row_kept (form.Boxed boxed) = boxed.value
