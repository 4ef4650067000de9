-- Which commands are sound: their numbers are in the ranges that a clerk's request may have, and
-- what they remove or show is of a kind that can be removed or shown.
use Rattle.std.specs.Prelude.{ℕ, ◌==◌, Bool, true, false, not, ◌&&◌, nat_le, length}
use Rattle.std.specs.List.{list_all}
use Rattle.std.specs.Int.{is_in_range}
use Rattle.off_defs.specs.Bounds.{last_add_on, least_prefix, most_prefix}
use Rattle.off_defs.specs.declared.keys.Key.{Key}
use Rattle.off_defs.specs.declared.keys.Key.TheVariants as key
use Rattle.off_defs.specs.declared.tables.Pool.{Pool}
use Rattle.off_defs.specs.declared.tables.Subscriber.{Subscriber}
use Rattle.off_defs.specs.declared.tables.ImportKind.{ImportKind}
use Rattle.off_defs.specs.declared.tables.ImportKind.TheVariants.{Subscribers, Modems}
use Rattle.off_orders.specs.declared.orders.ImportRow.{ImportRow}
use Rattle.off_orders.specs.declared.orders.ImportRow.TheVariants as row
use Rattle.off_orders.specs.declared.orders.Command.{Command}
use Rattle.off_orders.specs.declared.orders.Command.TheVariants.{PutHub, PutSubscriber, PutAddOn, PutModem, PutClass, PutPool, PutDevicePool, Remove, Show, Import}
use Rattle.off_account_rules.specs.Rows.{subscriber_fits}

-- a subscriber's add-ons have the numbers 0 to 7
abbrev pub is_add_on_number : ℕ → Bool
is_add_on_number number = nat_le number last_add_on

-- a network's prefix has 8 to 30 bits, and its relay an address
abbrev pub is_sound_pool : Pool → Bool
is_sound_pool pool = is_in_range least_prefix most_prefix pool.prefix && not (pool.relay.0 == 0)

-- the rows that a clerk removes
abbrev pub is_removable : Key → Bool
is_removable (key.Subscriber number) = true
is_removable (key.AddOn subscriber number) = is_add_on_number number
is_removable (key.Modem mac) = true
is_removable (key.Class number) = true
is_removable (key.Pool number) = true
is_removable key.Site = false
is_removable (key.Lease address) = false
is_removable (key.Held mac) = false
is_removable (key.Batch number) = false
is_removable (key.Hub number) = true
is_removable (key.PoolHub pool) = false
is_removable (key.DevicePool number) = true
is_removable (key.Device address) = false

-- the rows that a clerk is shown: these, and the leases
abbrev pub is_shown : Key → Bool
is_shown key.Site = false
is_shown (key.Lease address) = true
is_shown (key.Subscriber number) = is_removable (key.Subscriber number)
is_shown (key.AddOn subscriber number) = is_removable (key.AddOn subscriber number)
is_shown (key.Modem mac) = is_removable (key.Modem mac)
is_shown (key.Class number) = is_removable (key.Class number)
is_shown (key.Pool number) = is_removable (key.Pool number)
is_shown (key.Held mac) = false
is_shown (key.Batch number) = false
is_shown (key.Hub number) = is_removable (key.Hub number)
is_shown (key.PoolHub pool) = false
is_shown (key.DevicePool number) = is_removable (key.DevicePool number)
is_shown (key.Device address) = false

-- a row that an import of the kind has
abbrev pub is_row_of : ImportKind → ImportRow → Bool
is_row_of Subscribers (row.Subscriber number subscriber) = subscriber_fits subscriber
is_row_of Subscribers (row.Modem mac modem) = false
is_row_of Modems (row.Subscriber number subscriber) = false
is_row_of Modems (row.Modem mac modem) = true

abbrev pub is_sound : Command → Bool
is_sound (PutHub number site) = true
is_sound (PutSubscriber number subscriber) = subscriber_fits subscriber
is_sound (PutAddOn subscriber number settings) = is_add_on_number number
is_sound (PutModem mac modem) = true
is_sound (PutClass number class) = true
is_sound (PutPool number pool hub) = is_sound_pool pool
is_sound (PutDevicePool number pool) = is_sound_pool pool
is_sound (Remove removed) = is_removable removed
is_sound (Show shown) = is_shown shown
-- an import has at most 2,000 rows, all of its kind
is_sound (Import kind batch digest rows) =
    nat_le (length rows) 2000 && list_all (is_row_of kind) rows
