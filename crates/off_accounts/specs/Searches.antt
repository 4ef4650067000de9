-- What is looked for among the tables' entries, so that a rule can be tested.
use Rattle.std.specs.Prelude.{ℕ, ◌==◌, Bool, true, not, ◌&&◌, Option, Some, None, List, [], ◌∷◌, map, option_map, cond, if◌then◌else◌}
use Rattle.std.specs.List.{find, filter, flat_map}
use Rattle.std.specs.FinMap as map_of
use Rattle.off_base.specs.declared.addresses.Ip4.{Ip4}
use Rattle.off_defs.specs.declared.keys.Key.{Key}
use Rattle.off_defs.specs.declared.keys.Key.TheVariants.{Class, PoolHub, Pool as PoolKey, Lease as LeaseKey, DevicePool as DevicePoolKey, Device as DeviceKey}
use Rattle.off_defs.specs.declared.tables.Row.{Row}
use Rattle.off_defs.specs.declared.tables.Pool.{Pool}
use Rattle.off_defs.specs.declared.tables.Lease.{Lease}
use Rattle.off_defs.specs.declared.tables.DeviceLease.{DeviceLease}
use Rattle.off_defs.specs.declared.writes.Write.{Write}
use Rattle.off_orders.specs.declared.rules.Rule.{Rule}
use Rattle.off_orders.specs.declared.rules.Rule.TheVariants as rule
use Rattle.off_defs.specs.State.{Tables}
use Rattle.off_account_rules.specs.Rows.{passes, overlaps, pool_of, device_pool_of, lease_of, device_of, pools, leases, devices, pool_hub_in}
use Rattle.off_account_rules.specs.Changes.{gives_up}
use Rattle.off_orders.specs.Clerk.{is_other_with_relay, is_live, is_live_device, lease_drops, device_drop}
use Rattle.off_accounts.specs.declared.whose.Whose.{Whose}
use Rattle.off_accounts.specs.declared.whose.Whose.TheVariants.{Modems as OfModems, Devices as OfDevices}
use Rattle.off_accounts.specs.declared.lost.Lost.{Lost}
use Rattle.off_accounts.specs.declared.searching.Sought.{Sought}
use Rattle.off_accounts.specs.declared.searching.Sought.TheVariants.{Overlapping, WithRelay, LiveLost}

-- ---- whose rows

-- the number of a pool's key, and the address of a lease's key
abbrev pub pool_number : Whose → Key → Option ℕ
pool_number OfModems (PoolKey n) = Some n
pool_number OfDevices (DevicePoolKey n) = Some n
pool_number whose other = None

abbrev pub lease_address : Whose → Key → Option Ip4
lease_address OfModems (LeaseKey address) = Some address
lease_address OfDevices (DeviceKey address) = Some address
lease_address whose other = None

abbrev pub lease_key : Whose → Ip4 → Key
lease_key OfModems address = LeaseKey address
lease_key OfDevices address = DeviceKey address

-- the kinds of their keys, by number, and the greatest keys of the kinds before
abbrev pub pool_kind : Whose → ℕ
pool_kind OfModems = 6
pool_kind OfDevices = 12

abbrev pub lease_kind : Whose → ℕ
lease_kind OfModems = 7
lease_kind OfDevices = 13

abbrev pub before_pools : Whose → Key
before_pools OfModems = Class 4294967295
before_pools OfDevices = PoolHub 4294967295

abbrev pub before_leases : Whose → Key
before_leases OfModems = PoolKey 4294967295
before_leases OfDevices = DevicePoolKey 4294967295

-- the pool of an entry with its number
abbrev pub pool_given : Whose → Key × Row → Option (ℕ × Pool)
pool_given OfModems entry = pool_of entry
pool_given OfDevices entry = device_pool_of entry

-- ---- what is wanted

-- another pool than that of the number, if there is one, which has an address of this one
abbrev pub is_another : Option ℕ → ℕ → Bool
is_another None m = true
is_another (Some n) m = not (m == n)

abbrev pub is_overlapping : Option ℕ → Pool → ℕ × Pool → Bool
is_overlapping own pool other = is_another own other.0 && overlaps pool other.1

-- a lease of an address that the pool gives up, by its key; and one that hasn't expired
abbrev pub is_given_up : Lost → Key → Bool
is_given_up lost key = passes (gives_up (Some lost.old) lost.new) (lease_address lost.whose key)

abbrev pub is_live_lost : Whose → ℕ → Lost → Key × Row → Bool
is_live_lost OfModems now lost entry =
    passes (λ lease. gives_up (Some lost.old) lost.new lease.0 && is_live now lease)
    (lease_of entry)
is_live_lost OfDevices now lost entry =
    passes (λ lease. gives_up (Some lost.old) lost.new lease.0 && is_live_device now lease)
    (device_of entry)

abbrev pub is_wanted : Sought → Key × Row → Bool
is_wanted (Overlapping whose own pool) entry =
    passes (is_overlapping own pool) (pool_given whose entry)
is_wanted (WithRelay whose n pool) entry =
    passes (is_other_with_relay n pool) (pool_given whose entry)
is_wanted (LiveLost now lost) entry = is_live_lost lost.whose now.0 lost entry

-- the least key that is wanted
abbrev pub least_wanted : Sought → Tables → Option Key
least_wanted sought t =
    option_map (λ (entry : Key × Row). entry.0) (find (is_wanted sought) (map_of.entries t))

-- the leases that are lost where a pool, or none, was at the key and another, or none, takes its
-- place
abbrev pub lost_from : Option Pool → Option Pool → Tables → List (Ip4 × Lease)
lost_from old new t = filter (λ entry. gives_up old new entry.0) (leases t)

abbrev pub lost_devices_from : Option Pool → Option Pool → Tables → List (Ip4 × DeviceLease)
lost_devices_from old new t = filter (λ entry. gives_up old new entry.0) (devices t)

-- the rule that a pool may not lose leases that haven't expired, where the pool, or none, that was
-- at the key before is known
abbrev pub live_lost : Whose → ℕ → Option Pool → Option Pool → Tables → Option Rule
live_lost OfModems now old new t =
    option_map (λ (entry : Ip4 × Lease). rule.PoolHasLeases entry.0)
    (find (is_live now) (lost_from old new t))
live_lost OfDevices now old new t =
    option_map (λ (entry : Ip4 × DeviceLease). rule.PoolHasLeases entry.0)
    (find (is_live_device now) (lost_devices_from old new t))

-- the least pool whose hub it is, and the number of a pool where it is
abbrev pub is_pool_of : Tables → ℕ → ℕ × Pool → Bool
is_pool_of t hub entry = pool_hub_in t entry.0 == hub

abbrev pub least_of : Tables → ℕ → Option ℕ
least_of t hub = option_map (λ (entry : ℕ × Pool). entry.0) (find (is_pool_of t hub) (pools t))

abbrev pub of_hub_in : Tables → ℕ → Option ℕ → Option ℕ
of_hub_in t hub None = None
of_hub_in t hub (Some n) = if pool_hub_in t n == hub then Some n else None

-- the rule that a hub that a pool has isn't removed
abbrev pub hub_rule : Option ℕ → Option Rule
hub_rule found = option_map rule.HubInUse found

-- ---- what is dropped

-- the drops of the leases that are lost, and with one of a modem's that of the row of who holds it
abbrev pub drops_from : Whose → Option Pool → Option Pool → Tables → List Write
drops_from OfModems old new t = flat_map lease_drops (lost_from old new t)
drops_from OfDevices old new t = map device_drop (lost_devices_from old new t)

-- what is dropped where an entry is a lease that is given up
abbrev pub lost_drops : {X : Type 0} → (Ip4 × X → List Write) → Lost → Option (Ip4 × X) → List Write
lost_drops drops lost None = []
lost_drops drops lost (Some entry) =
    cond (gives_up (Some lost.old) lost.new entry.0) (drops entry) []

abbrev pub drops_by : Whose → Lost → Key × Row → List Write
drops_by OfModems lost entry = lost_drops lease_drops lost (lease_of entry)
drops_by OfDevices lost entry = lost_drops (λ lease. device_drop lease ∷ []) lost (device_of entry)

abbrev pub drops_at : Lost → Key × Row → List Write
drops_at lost entry = drops_by lost.whose lost entry
