-- The pools for devices: which rows of the tables they are, and what is taken for each write of
-- them, so that they are kept as the pools of modems are.
use Rattle.std.specs.Prelude.{ℕ, List, Option, Some, None}
use Rattle.std.specs.List.{filter_map}
use Rattle.off_defs.specs.declared.keys.Key.TheVariants as key
use Rattle.off_defs.specs.declared.tables.Row.{Row}
use Rattle.off_defs.specs.declared.tables.Row.TheVariants as row
use Rattle.off_defs.specs.declared.tables.Hold.TheVariants as hold
use Rattle.off_defs.specs.declared.tables.DeviceLease.{DeviceLease}
use Rattle.off_defs.specs.declared.writes.Write.{Write}
use Rattle.off_defs.specs.declared.writes.Write.TheVariants.{Put, Drop}
use Rattle.off_defs.specs.State.{Tables}
use Rattle.off_defs.specs.Tables.{write_all}
use Rattle.off_account_rules.specs.Good.{Opens}
use Rattle.off_account_rules.specs.Rows.{device_pools, device_pool_in, device_in}
use Rattle.off_runs.specs.Runs.{address}
use Rattle.off_runs.specs.Held.{Ground}
use Rattle.off_runs.specs.Leases.{Moves}

-- what stands in the tables: an address without a lease has expiry 0, and pools for devices have no
-- hub, which counts as the hub 0
abbrev pub expiry_of : Option DeviceLease → ℕ
expiry_of None = 0
expiry_of (Some lease) = lease.expiry.0

abbrev pub expiry_in : Tables → ℕ → ℕ
expiry_in t a = expiry_of (device_in t (address a))

abbrev pub device_ground : Tables → Ground
device_ground t = record { pools = device_pools t; expiry = expiry_in t; hub = λ n. 0 }

-- when the lease of a row ends, 0 where it's none of a device; and a lease with an end, of nobody
abbrev pub end_held : Row → ℕ
end_held (row.Device lease) = lease.expiry.0
end_held held = 0

abbrev pub ending : ℕ → Row
ending expiry = row.Lease (record { hold = hold.Declined; expiry = record { 0 = expiry } })

-- what is taken for a write: that of a pool of modems with the same number, or of a lease of the
-- same address, of which the end alone matters
abbrev pub taken_for : Write → Option Write
taken_for (Put (key.DevicePool n) held) = Some (Put (key.Pool n) held)
taken_for (Drop (key.DevicePool n)) = Some (Drop (key.Pool n))
taken_for (Put (key.Device a) held) = Some (Put (key.Lease a) (ending (end_held held)))
taken_for (Drop (key.Device a)) = Some (Drop (key.Lease a))
taken_for write = None

abbrev pub taken_all : List Write → List Write
taken_all writes = filter_map taken_for writes

-- what is taken for writes moves the ground of tables that open so, whatever they leave
abbrev pub DevicesMove : Type 0
DevicesMove =
    (t : Tables) → Opens t → (writes : List Write) →
    Moves (taken_all writes) (device_pool_in t) (device_ground t)
    (device_ground (write_all t writes))
