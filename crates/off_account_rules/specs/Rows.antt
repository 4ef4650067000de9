-- Rows of the tables, by kind. A row is possible at a key where it's of the key's kind and its own
-- values are in their ranges, whatever the other rows are. Whoever reads a row takes an impossible
-- one as one that isn't there; only the test of good tables doesn't.
use Rattle.std.specs.Prelude.{ℕ, ℤ, pos, neg_ℤ, ◌-◌, ◌==◌, Bool, true, false, not, ◌&&◌, nat_le, nat_lt, int_le, min, max, List, length, Option, Some, None, is_some, is_none, option_map, option_and_then, if◌then◌else◌}
use Rattle.std.specs.List.{filter_map, find, count_by}
use Rattle.std.specs.Int.{is_in_range}
use Rattle.std.specs.Option.{option_map_or}
use Rattle.std.specs.FinMap as map
use Rattle.off_base.specs.Number.{greatest_u64}
use Rattle.off_base.specs.Tree.{Tree}
use Rattle.off_base.specs.declared.addresses.Ip4.{Ip4}
use Rattle.off_base.specs.declared.macs.Mac.{Mac}
use Rattle.off_tree.specs.declared.tables.Kind.TheVariants as tree
use Rattle.off_tree.specs.Fault.{first_fault}
use Rattle.off_defs.specs.Bounds.{last_add_on, most_devices, least_prefix, most_prefix}
use Rattle.off_defs.specs.declared.keys.Key.{Key}
use Rattle.off_defs.specs.declared.keys.Key.TheVariants as key
use Rattle.off_defs.specs.declared.tables.Row.{Row}
use Rattle.off_defs.specs.declared.tables.Row.TheVariants as row
use Rattle.off_defs.specs.declared.tables.Site.{Site}
use Rattle.off_defs.specs.declared.tables.Subscriber.{Subscriber}
use Rattle.off_defs.specs.declared.tables.Modem.{Modem}
use Rattle.off_defs.specs.declared.tables.Class.{Class}
use Rattle.off_defs.specs.declared.tables.Pool.{Pool}
use Rattle.off_defs.specs.declared.tables.Lease.{Lease}
use Rattle.off_defs.specs.declared.tables.Batch.{Batch}
use Rattle.off_defs.specs.declared.tables.DeviceLease.{DeviceLease}
use Rattle.off_defs.specs.declared.kinds.Kind.{Kind}
use Rattle.off_defs.specs.declared.kinds.Kind.TheVariants.{Subscribers, AddOns, Modems, Classes, Pools, Batches, Hubs, DevicePools}
use Rattle.off_defs.specs.State.{Tables}
use Rattle.off_defs.specs.Tables.{row_at}
use Rattle.off_account_rules.specs.declared.counts.Counts.{Counts}

-- a site has an address and a secret of 1 to 64 bytes; its leases last a minute to a week; it lies
-- within a day of UTC
abbrev pub is_offset : ℤ → Bool
is_offset offset = int_le (neg_ℤ (pos 86400)) offset && int_le offset (pos 86400)

abbrev pub is_lease_time : ℕ → Bool
is_lease_time seconds = is_in_range 60 604800 seconds

abbrev pub site_fits : Site → Bool
site_fits site =
    not (site.server.0 == 0) && (is_in_range 1 64 (length site.secret)
    && (is_offset site.offset && is_lease_time site.lease))

-- behind a modem may be 1 to 254 devices
abbrev pub subscriber_fits : Subscriber → Bool
subscriber_fits subscriber = is_in_range 1 most_devices subscriber.cpes

-- the settings of a class or an add-on are good where they have no first fault
unfoldable pub class_is_good : List Tree → Bool
class_is_good settings = is_none (first_fault tree.Class settings)

unfoldable pub add_on_is_good : List Tree → Bool
add_on_is_good settings = is_none (first_fault tree.AddOn settings)

-- a pool has 1 to 4,096 addresses
abbrev pub has_pool_size : Pool → Bool
has_pool_size pool = nat_le pool.first.0 pool.last.0 && nat_lt (pool.last.0 - pool.first.0) 4096

abbrev pub pool_fits : Pool → Bool
pool_fits pool =
    has_pool_size pool && (is_in_range least_prefix most_prefix pool.prefix
    && not (pool.relay.0 == 0))

-- the row, where it is of the kind; each reader takes the rows of its own kind and no others
abbrev pub as_site : Row → Option Site
as_site (row.Site site) = Some site
as_site row = None

abbrev pub as_subscriber : Row → Option Subscriber
as_subscriber (row.Subscriber subscriber) = Some subscriber
as_subscriber row = None

abbrev pub as_add_on : Row → Option (List Tree)
as_add_on (row.AddOn settings) = Some settings
as_add_on row = None

abbrev pub as_modem : Row → Option Modem
as_modem (row.Modem modem) = Some modem
as_modem row = None

abbrev pub as_class : Row → Option Class
as_class (row.Class class) = Some class
as_class row = None

abbrev pub as_pool : Row → Option Pool
as_pool (row.Pool pool) = Some pool
as_pool row = None

abbrev pub as_lease : Row → Option Lease
as_lease (row.Lease lease) = Some lease
as_lease row = None

abbrev pub as_held : Row → Option Ip4
as_held (row.Held address) = Some address
as_held row = None

abbrev pub as_batch : Row → Option Batch
as_batch (row.Batch batch) = Some batch
as_batch row = None

abbrev pub as_pool_hub : Row → Option ℕ
as_pool_hub (row.PoolHub hub) = Some hub
as_pool_hub row = None

abbrev pub as_device : Row → Option DeviceLease
as_device (row.Device lease) = Some lease
as_device row = None

-- the row is of the wanted kind, and passes the test
abbrev pub passes : {X : Type 0} → (X → Bool) → Option X → Bool
passes test None = false
passes test (Some x) = test x

abbrev pub is_possible : Key → Row → Bool
is_possible key.Site held = passes site_fits (as_site held)
is_possible (key.Subscriber n) held = passes subscriber_fits (as_subscriber held)
is_possible (key.AddOn n number) held =
    passes (λ settings. nat_le number last_add_on && add_on_is_good settings) (as_add_on held)
is_possible (key.Modem mac) held = is_some (as_modem held)
is_possible (key.Class n) held = passes (λ class. class_is_good class.settings) (as_class held)
is_possible (key.Pool n) held = passes pool_fits (as_pool held)
is_possible (key.Lease address) held = is_some (as_lease held)
is_possible (key.Held mac) held = is_some (as_held held)
is_possible (key.Batch n) held = is_some (as_batch held)
is_possible (key.Hub n) held = passes site_fits (as_site held)
-- a pool without a row has the hub 0
is_possible (key.PoolHub n) held = passes (λ hub. not (hub == 0)) (as_pool_hub held)
is_possible (key.DevicePool n) held = passes pool_fits (as_pool held)
is_possible (key.Device address) held = is_some (as_device held)

-- the row of a key, as whoever reads it takes it
abbrev pub possible : Key → Option Row → Option Row
possible key None = None
possible key (Some row) = if is_possible key row then Some row else None

abbrev pub seen_at : Tables → Key → Option Row
seen_at tables key = possible key (row_at tables key)

-- a hub's row is its site
abbrev pub hub_in : Tables → ℕ → Option Site
hub_in tables n = option_and_then as_site (seen_at tables (key.Hub n))

abbrev pub subscriber_in : Tables → ℕ → Option Subscriber
subscriber_in tables n = option_and_then as_subscriber (seen_at tables (key.Subscriber n))

abbrev pub add_on_in : Tables → ℕ → ℕ → Option (List Tree)
add_on_in tables n number = option_and_then as_add_on (seen_at tables (key.AddOn n number))

abbrev pub modem_in : Tables → Mac → Option Modem
modem_in tables mac = option_and_then as_modem (seen_at tables (key.Modem mac))

abbrev pub class_in : Tables → ℕ → Option Class
class_in tables n = option_and_then as_class (seen_at tables (key.Class n))

abbrev pub pool_in : Tables → ℕ → Option Pool
pool_in tables n = option_and_then as_pool (seen_at tables (key.Pool n))

abbrev pub lease_in : Tables → Ip4 → Option Lease
lease_in tables address = option_and_then as_lease (seen_at tables (key.Lease address))

abbrev pub held_in : Tables → Mac → Option Ip4
held_in tables mac = option_and_then as_held (seen_at tables (key.Held mac))

abbrev pub batch_in : Tables → ℕ → Option Batch
batch_in tables n = option_and_then as_batch (seen_at tables (key.Batch n))

-- the number of a pool's hub, which is 0 where none is named
abbrev pub number_or_0 : Option ℕ → ℕ
number_or_0 None = 0
number_or_0 (Some hub) = hub

abbrev pub pool_hub_in : Tables → ℕ → ℕ
pool_hub_in tables n = number_or_0 (option_and_then as_pool_hub (seen_at tables (key.PoolHub n)))

abbrev pub device_pool_in : Tables → ℕ → Option Pool
device_pool_in tables n = option_and_then as_pool (seen_at tables (key.DevicePool n))

abbrev pub device_in : Tables → Ip4 → Option DeviceLease
device_in tables address = option_and_then as_device (seen_at tables (key.Device address))

-- All rows of a kind with their keys, in the order of keys
abbrev pub modem_of : Key × Row → Option (Mac × Modem)
modem_of (key.Modem mac, row.Modem modem) = Some (mac, modem)
modem_of entry = None

abbrev pub modems : Tables → List (Mac × Modem)
modems tables = filter_map modem_of (map.entries tables)

abbrev pub fitting_pool : Bool → ℕ → Pool → Option (ℕ × Pool)
fitting_pool true n pool = Some (n, pool)
fitting_pool false n pool = None

abbrev pub pool_of : Key × Row → Option (ℕ × Pool)
pool_of (key.Pool n, row.Pool pool) = fitting_pool (pool_fits pool) n pool
pool_of entry = None

abbrev pub pools : Tables → List (ℕ × Pool)
pools tables = filter_map pool_of (map.entries tables)

abbrev pub lease_of : Key × Row → Option (Ip4 × Lease)
lease_of (key.Lease address, row.Lease lease) = Some (address, lease)
lease_of entry = None

abbrev pub leases : Tables → List (Ip4 × Lease)
leases tables = filter_map lease_of (map.entries tables)

abbrev pub device_pool_of : Key × Row → Option (ℕ × Pool)
device_pool_of (key.DevicePool n, row.Pool pool) = fitting_pool (pool_fits pool) n pool
device_pool_of entry = None

abbrev pub device_pools : Tables → List (ℕ × Pool)
device_pools tables = filter_map device_pool_of (map.entries tables)

abbrev pub device_of : Key × Row → Option (Ip4 × DeviceLease)
device_of (key.Device address, row.Device lease) = Some (address, lease)
device_of entry = None

abbrev pub devices : Tables → List (Ip4 × DeviceLease)
devices tables = filter_map device_of (map.entries tables)

-- the addresses of a pool, and the pools that have an address in common
abbrev pub has_address : Pool → Ip4 → Bool
has_address pool address = nat_le pool.first.0 address.0 && nat_le address.0 pool.last.0

abbrev pub overlaps : Pool → Pool → Bool
overlaps pool other = nat_le (max pool.first.0 other.first.0) (min pool.last.0 other.last.0)

-- An address has the hub of the pool in which it lies; in no pool it has none. In good tables it
-- lies in one pool at most.
abbrev pub pool_with : Tables → Ip4 → Option (ℕ × Pool)
pool_with tables address = find (λ entry. has_address entry.1 address) (pools tables)

abbrev pub hub_of : Tables → Ip4 → Option ℕ
hub_of tables address =
    option_map (λ entry. pool_hub_in tables entry.0) (pool_with tables address)

-- the site of an address is that of its hub: what the modems of a hub have in common
abbrev pub site_of : Tables → Ip4 → Option Site
site_of tables address = option_and_then (hub_in tables) (hub_of tables address)

-- the kind by which a row of this key is counted, if it is
abbrev pub kind_counted : Key → Option Kind
kind_counted key.Site = None
kind_counted (key.Subscriber n) = Some Subscribers
kind_counted (key.AddOn n number) = Some AddOns
kind_counted (key.Modem mac) = Some Modems
kind_counted (key.Class n) = Some Classes
kind_counted (key.Pool n) = Some Pools
kind_counted (key.Lease address) = None
kind_counted (key.Held mac) = None
kind_counted (key.Batch n) = Some Batches
kind_counted (key.Hub n) = Some Hubs
kind_counted (key.PoolHub n) = None
kind_counted (key.DevicePool n) = Some DevicePools
kind_counted (key.Device address) = None

abbrev pub kind_number : Kind → ℕ
kind_number Subscribers = 1
kind_number AddOns = 2
kind_number Modems = 3
kind_number Classes = 4
kind_number Pools = 5
kind_number Batches = 6
kind_number Hubs = 7
kind_number DevicePools = 8

-- How many possible rows there are of a kind
abbrev pub is_of_kind : Kind → Key → Bool
is_of_kind kind key =
    option_map_or (λ counted. kind_number counted == kind_number kind) (kind_counted key) false

abbrev pub is_counted : Kind → Key × Row → Bool
is_counted kind entry = is_of_kind kind entry.0 && is_possible entry.0 entry.1

abbrev pub count_of : Kind → Tables → ℕ
count_of kind tables = count_by (is_counted kind) (map.entries tables)

-- All counts as the office keeps them. There are fewer keys of each kind than 2^64, but for
-- batches: so many or more count as 2^64 - 1.
abbrev pub counts_of : Tables → Counts
counts_of tables = record {
  subscribers = count_of Subscribers tables;
  addons = count_of AddOns tables;
  modems = count_of Modems tables;
  classes = count_of Classes tables;
  pools = count_of Pools tables;
  batches = min greatest_u64 (count_of Batches tables);
  hubs = count_of Hubs tables;
  device_pools = count_of DevicePools tables;
}
