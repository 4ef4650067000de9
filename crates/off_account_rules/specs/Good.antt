-- When tables open, and when they are good: each key's row is possible and stands in the right
-- relations to the other rows. Here rows are read as they are, also impossible ones, so that the
-- least bad key is named and not one that stands on it.
use Rattle.std.specs.Prelude.{◌≡◌, ℕ, ◌==◌, nat_lt, Bool, true, false, not, ◌&&◌, ◌||◌, IsTrue, List, Option, Some, None, is_some, option_map, option_and_then}
use Rattle.std.specs.List.{filter_map, find, list_all, list_any, count_by}
use Rattle.std.specs.Ordering.{eq_by_cmp, nat_cmp}
use Rattle.std.specs.Cmp.Lexicographic.{slice_cmp}
use Rattle.std.specs.declared.cmp.Ordering.TheVariants.{Less}
use Rattle.std.specs.FinMap as map
use Rattle.off_base.specs.declared.addresses.Ip4.{Ip4}
use Rattle.off_base.specs.declared.macs.Mac.{Mac}
use Rattle.off_defs.specs.declared.keys.Key.{Key}
use Rattle.off_defs.specs.declared.keys.Key.TheVariants as key
use Rattle.off_defs.specs.declared.tables.Row.{Row}
use Rattle.off_defs.specs.declared.tables.Row.TheVariants as row
use Rattle.off_defs.specs.declared.tables.Pool.{Pool}
use Rattle.off_defs.specs.declared.tables.Hold.{Hold}
use Rattle.off_defs.specs.declared.tables.Hold.TheVariants.{Offered, Bound, Declined}
use Rattle.off_defs.specs.Keys.{key_cmp}
use Rattle.off_defs.specs.State.{Tables}
use Rattle.off_defs.specs.Tables.{row_at}
use Rattle.off_defs.specs.declared.tables.Modem.{Modem}
use Rattle.off_defs.specs.declared.tables.Lease.{Lease}
use Rattle.off_defs.specs.declared.tables.DeviceLease.{DeviceLease}
use Rattle.off_defs.specs.declared.tables.DeviceHold.{DeviceHold}
use Rattle.off_defs.specs.declared.tables.DeviceHold.TheVariants as device
use Rattle.off_account_rules.specs.Rows.{passes, is_possible, has_address, overlaps, as_modem, as_pool, as_lease, as_held, as_pool_hub, as_device, number_or_0, devices}

abbrev pub is_there : Tables → Key → Bool
is_there tables key = is_some (row_at tables key)

-- all rows that are pools at the key of a pool, whatever their values
abbrev pub raw_pool_of : Key × Row → Option (ℕ × Pool)
raw_pool_of (key.Pool n, row.Pool pool) = Some (n, pool)
raw_pool_of entry = None

abbrev pub raw_pools : Tables → List (ℕ × Pool)
raw_pools tables = filter_map raw_pool_of (map.entries tables)

-- the same of pools for devices
abbrev pub raw_device_pool_of : Key × Row → Option (ℕ × Pool)
raw_device_pool_of (key.DevicePool n, row.Pool pool) = Some (n, pool)
raw_device_pool_of entry = None

abbrev pub raw_device_pools : Tables → List (ℕ × Pool)
raw_device_pools tables = filter_map raw_device_pool_of (map.entries tables)

-- a pool of modems and one for devices have no address in common
abbrev pub is_disjoint : Pool → ℕ × Pool → Bool
is_disjoint pool other = not (overlaps pool other.1)

-- no other pool has an address of this one or its relay
abbrev pub is_apart : ℕ → Pool → ℕ × Pool → Bool
is_apart n pool other =
    (other.0 == n) || (not (overlaps pool other.1) && not (other.1.relay.0 == pool.relay.0))

-- An office of earlier days had one site. Its row counts as that of the hub 0, and stands where no
-- row is of hubs.
abbrev pub is_of_hubs : Key → Bool
is_of_hubs (key.Hub n) = true
is_of_hubs (key.PoolHub n) = true
is_of_hubs other = false

abbrev pub names_hubs : Tables → Bool
names_hubs tables = list_any (λ entry. is_of_hubs entry.0) (map.entries tables)

abbrev pub is_hub_there : Tables → ℕ → Bool
is_hub_there tables n = is_there tables (key.Hub n) || ((n == 0) && is_there tables key.Site)

-- the number of a pool's hub
abbrev pub stored_hub : Tables → ℕ → ℕ
stored_hub tables n = number_or_0 (option_and_then as_pool_hub (row_at tables (key.PoolHub n)))

-- the hub of an address: that of a pool in which it lies
abbrev pub stored_hub_of : Tables → Ip4 → Option ℕ
stored_hub_of tables address =
    option_map (λ entry. stored_hub tables entry.0)
    (find (λ entry. has_address entry.1 address) (raw_pools tables))

-- a pool that names a hub is there, and so is the hub
abbrev pub pool_hub_stands : Tables → ℕ → ℕ → Bool
pool_hub_stands tables n hub = is_there tables (key.Pool n) && is_hub_there tables hub

-- how many pools have the address
abbrev pub pools_around : Tables → Ip4 → ℕ
pools_around tables address = count_by (λ other. has_address other.1 address) (raw_pools tables)

-- how many pools for devices have it
abbrev pub device_pools_around : Tables → Ip4 → ℕ
device_pools_around tables address =
    count_by (λ other. has_address other.1 address) (raw_device_pools tables)

-- the modem that has an address
abbrev pub owner_of : Hold → Option Mac
owner_of (Offered mac) = Some mac
owner_of (Bound mac) = Some mac
owner_of Declined = None

-- a modem is bound to the address, and at a moment is so still
abbrev pub is_bound : Hold → Bool
is_bound (Bound mac) = true
is_bound hold = false

abbrev pub is_live_bound : ℕ → Lease → Bool
is_live_bound now lease = is_bound lease.hold && nat_lt now lease.expiry.0

abbrev pub is_mac : Mac → Mac → Bool
is_mac mac other = eq_by_cmp (slice_cmp nat_cmp) mac.0 other.0

-- the modem and its device that have an address
abbrev pub device_owner : DeviceHold → Option (Mac × Mac)
device_owner (device.Offered modem behind) = Some (modem, behind)
device_owner (device.Bound modem behind) = Some (modem, behind)
device_owner device.Declined = None

-- no other address has the same owner
abbrev pub is_same_owner : Mac × Mac → Mac × Mac → Bool
is_same_owner one other = is_mac one.0 other.0 && is_mac one.1 other.1

abbrev pub is_owned_apart : Ip4 → Option (Mac × Mac) → Ip4 × DeviceLease → Bool
is_owned_apart address None other = true
is_owned_apart address (Some owner) other =
    (other.0.0 == address.0) || not (passes (is_same_owner owner) (device_owner other.1.hold))

-- a device's lease has its one pool for devices, and a device of a modem has one lease
abbrev pub device_stands : Tables → Ip4 → DeviceLease → Bool
device_stands tables address lease =
    (device_pools_around tables address == 1)
    && list_all (is_owned_apart address (device_owner lease.hold)) (devices tables)

-- a pool is apart from all others, and one for devices too
abbrev pub pool_stands : Tables → ℕ → Pool → Bool
pool_stands tables n pool =
    list_all (is_apart n pool) (raw_pools tables)
    && list_all (is_disjoint pool) (raw_device_pools tables)

abbrev pub device_pool_stands : Tables → ℕ → Pool → Bool
device_pool_stands tables n pool =
    list_all (is_apart n pool) (raw_device_pools tables)
    && list_all (is_disjoint pool) (raw_pools tables)

-- the modem holds this address; this modem owns the lease of an address
abbrev pub is_address : Ip4 → Ip4 → Bool
is_address address other = other.0 == address.0

abbrev pub stored_held : Tables → Mac → Option Ip4
stored_held tables mac = option_and_then as_held (row_at tables (key.Held mac))

abbrev pub holds : Tables → Ip4 → Mac → Bool
holds tables address mac = passes (is_address address) (stored_held tables mac)

abbrev pub owner_holds : Tables → Ip4 → Option Mac → Bool
owner_holds tables address None = true
owner_holds tables address (Some mac) = holds tables address mac

abbrev pub owner_at : Tables → Ip4 → Option Mac
owner_at tables address =
    option_and_then (λ lease. owner_of lease.hold)
    (option_and_then as_lease (row_at tables (key.Lease address)))

abbrev pub owns : Tables → Mac → Ip4 → Bool
owns tables mac address = passes (is_mac mac) (owner_at tables address)

-- a modem has its subscriber and its class
abbrev pub modem_stands : Tables → Modem → Bool
modem_stands tables modem =
    is_there tables (key.Subscriber modem.subscriber) && is_there tables (key.Class modem.class)

-- a lease has its one pool and that pool's hub, and its owner holds its address
abbrev pub lease_stands : Tables → Ip4 → Lease → Bool
lease_stands tables address lease =
    (pools_around tables address == 1)
    && (passes (is_hub_there tables) (stored_hub_of tables address)
    && owner_holds tables address (owner_of lease.hold))

-- an add-on has its subscriber; no pool has an address or the relay of another; who holds an
-- address owns its lease
abbrev pub stands_right : Tables → Key → Row → Bool
stands_right tables key.Site held = not (names_hubs tables)
stands_right tables (key.Subscriber n) held = true
stands_right tables (key.AddOn n number) held = is_there tables (key.Subscriber n)
stands_right tables (key.Modem mac) held = passes (modem_stands tables) (as_modem held)
stands_right tables (key.Class n) held = true
stands_right tables (key.Pool n) held = passes (pool_stands tables n) (as_pool held)
stands_right tables (key.Lease address) held = passes (lease_stands tables address) (as_lease held)
stands_right tables (key.Held mac) held = passes (owns tables mac) (as_held held)
stands_right tables (key.Batch n) held = true
stands_right tables (key.Hub n) held = true
stands_right tables (key.PoolHub n) held = passes (pool_hub_stands tables n) (as_pool_hub held)
stands_right tables (key.DevicePool n) held = passes (device_pool_stands tables n) (as_pool held)
stands_right tables (key.Device address) held =
    passes (device_stands tables address) (as_device held)

abbrev pub keeps : Tables → Key → Row → Bool
keeps tables key held = is_possible key held && stands_right tables key held

-- a key keeps its line, or has no row
abbrev pub Keeps : Tables → Key → Type 0
Keeps tables key = (held : Row) → row_at tables key ≡ Some held → IsTrue (keeps tables key held)

-- tables that an office opens
abbrev pub Opens : Tables → Type 0
Opens tables = (key : Key) → Keeps tables key

-- tables over which an office works: the site of earlier days, if there was one, is the hub 0
pub record Good (tables : Tables) : Type 0 where
  pub opens : Opens tables
  pub no_site : row_at tables key.Site ≡ None

-- a key whose row breaks its line, and all keys below it keep theirs
pub record IsLeastBad (tables : Tables) (bad : Key) : Type 0 where
  pub held : Row
  pub there : row_at tables bad ≡ Some held
  pub breaks : keeps tables bad held ≡ false
  pub least : (key : Key) → key_cmp key bad ≡ Less → Keeps tables key

-- what a test of the tables says: they open, or this is their least bad key
abbrev pub Judged : Tables → Option Key → Type 0
Judged tables None = Opens tables
Judged tables (Some key) = IsLeastBad tables key
