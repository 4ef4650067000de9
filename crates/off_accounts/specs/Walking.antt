-- How many calls of the keeper the walks over pools and over leases make at most, by the tables.
use Rattle.std.specs.Prelude.{◌≡◌, ℕ, ◌+◌, ◌*◌, Bool, true, false, nat_le, nat_lt, count_by, Option, Some, None, List, [], ◌∷◌, IfSome, option_and_then}
use Rattle.std.specs.Option.{option_map_or}
use Rattle.std.specs.FinMap as map
use Rattle.off_base.specs.declared.addresses.Ip4.{Ip4}
use Rattle.off_defs.specs.declared.keys.Key.{Key}
use Rattle.off_defs.specs.declared.keys.Key.TheVariants as key
use Rattle.off_defs.specs.declared.tables.Row.{Row}
use Rattle.off_defs.specs.declared.tables.Pool.{Pool}
use Rattle.off_orders.specs.declared.orders.Command.{Command}
use Rattle.off_orders.specs.declared.orders.Command.TheVariants.{PutHub, PutSubscriber, PutAddOn, PutModem, PutClass, PutPool, PutDevicePool, Remove, Show, Import}
use Rattle.off_defs.specs.State.{Tables}
use Rattle.off_defs.specs.Tables.{is_after}
use Rattle.off_defs.specs.Kinds.{kind_of}
use Rattle.off_rows.specs.KeyBytes.{IsRanged}
use Rattle.off_account_rules.specs.Rows.{passes, has_address, pool_in, device_pool_in, seen_at, as_pool}
use Rattle.off_outside.specs.KeeperSeen.{KeeperSeen}
use Rattle.off_outside.specs.KeeperCalls.{Spent}
use Rattle.off_accounts.specs.declared.whose.Whose.{Whose}
use Rattle.off_accounts.specs.declared.whose.Whose.TheVariants.{Modems as OfModems, Devices as OfDevices}
use Rattle.off_accounts.specs.declared.lost.Lost.{Lost}
use Rattle.off_accounts.specs.declared.subject.Subject.{Subject}
use Rattle.off_accounts.specs.declared.searching.Sought.{Sought}
use Rattle.off_accounts.specs.declared.searching.Sought.TheVariants.{Overlapping, WithRelay, LiveLost}
use Rattle.off_accounts.specs.declared.testing.Test.{Test}
use Rattle.off_accounts.specs.declared.testing.Test.TheVariants.{Tested, HasSubscriber, HasClass, HasHub, FindsNone, HasNoPool}
use Rattle.off_accounts.specs.Searches.{lease_address, before_pools, pool_kind, lease_kind}

-- ---- what a command asks

-- the keys of pools, and those of the leases of a pool's addresses
abbrev pub is_of_pool : Key → Bool
is_of_pool (key.Pool n) = true
is_of_pool other = false

abbrev pub is_of_device_pool : Key → Bool
is_of_device_pool (key.DevicePool n) = true
is_of_device_pool other = false

abbrev pub is_pool_key : Whose → Key → Bool
is_pool_key OfModems other = is_of_pool other
is_pool_key OfDevices other = is_of_device_pool other

abbrev pub is_lease_in : Whose → Pool → Key → Bool
is_lease_in whose pool other = passes (has_address pool) (lease_address whose other)

-- how many rows the tables have at such keys
abbrev pub count_keys : (Key → Bool) → List (Key × Row) → ℕ
count_keys looks entries = count_by (λ (entry : Key × Row). looks entry.0) entries

abbrev pub rows_at : (Key → Bool) → Tables → ℕ
rows_at looks t = count_keys looks (map.entries t)

-- one walk over the leases of the pool that is at a key, if there is one
abbrev pub lease_calls : Whose → Option Pool → Tables → ℕ
lease_calls whose None t = 0
lease_calls whose (Some pool) t = rows_at (is_lease_in whose pool) t + 1

-- one walk over the pools of modems, and one over those for devices
abbrev pub pool_calls : Tables → ℕ
pool_calls t = rows_at is_of_pool t + 1

abbrev pub device_pool_calls : Tables → ℕ
device_pool_calls t = rows_at is_of_device_pool t + 1

-- one walk over the pools, in which the hub of each is looked up
abbrev pub hub_calls : Tables → ℕ
hub_calls t = 2 * rows_at is_of_pool t + 1

-- The pool that is at the key is looked up, and the hub that it is to have. Two walks over the
-- pools, each of which finds its end, look for one that overlaps and for one with the same relay,
-- and one over the pools for devices for one that overlaps; two over the leases of the pool that
-- was there, for one that may not be lost, and for those that are. Likewise for a pool for devices,
-- which has no hub. Where a hub is removed, one walk over the pools looks for one that has it.
abbrev pub walking_calls : Command → Tables → Option ℕ
walking_calls (PutPool n pool hub) t =
    Some (2 + 2 * pool_calls t + device_pool_calls t + 2 * lease_calls OfModems (pool_in t n) t)
walking_calls (PutDevicePool n pool) t =
    Some (1 + pool_calls t + 2 * device_pool_calls t
    + 2 * lease_calls OfDevices (device_pool_in t n) t)
walking_calls (Remove (key.Pool n)) t = Some (1 + 2 * lease_calls OfModems (pool_in t n) t)
walking_calls (Remove (key.DevicePool n)) t =
    Some (1 + 2 * lease_calls OfDevices (device_pool_in t n) t)
walking_calls (Remove (key.Hub n)) t = Some (1 + hub_calls t)
walking_calls command t = None

-- a command that walks asks no more, where the tables are told
abbrev pub WalksWithin : Command → KeeperSeen → KeeperSeen → Type 0
WalksWithin command old new =
    (t : Tables) → old.tables t → IfSome (walking_calls command t) (λ n. Spent n old new)

-- ---- what each part of it asks

-- one walk: a call for each row that it looks at, and one more that finds the end
abbrev pub WalksOver : (Key → Bool) → KeeperSeen → KeeperSeen → Type 0
WalksOver looks old new = (t : Tables) → old.tables t → Spent (rows_at looks t + 1) old new

-- the keys that a search looks at
abbrev pub looks_at : Sought → Key → Bool
looks_at (Overlapping whose own pool) = is_pool_key whose
looks_at (WithRelay whose n pool) = is_pool_key whose
looks_at (LiveLost now lost) = is_lease_in lost.whose lost.old

-- whether the first of them has been reached, and whether the last has been passed
abbrev pub is_past_first : Lost → Key → Bool
is_past_first lost other =
    option_map_or (λ (address : Ip4). nat_le lost.old.first.0 address.0)
    (lease_address lost.whose other) (nat_lt (lease_kind lost.whose) (kind_of other))

abbrev pub is_past_last : Lost → Key → Bool
is_past_last lost other =
    option_map_or (λ (address : Ip4). nat_lt lost.old.last.0 address.0)
    (lease_address lost.whose other) (nat_lt (lease_kind lost.whose) (kind_of other))

abbrev pub are_reached : Whose → Key → Bool
are_reached whose other = nat_lt (kind_of (before_pools whose)) (kind_of other)

abbrev pub are_passed : Whose → Key → Bool
are_passed whose other = nat_lt (pool_kind whose) (kind_of other)

abbrev pub is_reached : Sought → Key → Bool
is_reached (Overlapping whose own pool) other = are_reached whose other
is_reached (WithRelay whose n pool) other = are_reached whose other
is_reached (LiveLost now lost) other = is_past_first lost other

abbrev pub is_passed : Sought → Key → Bool
is_passed (Overlapping whose own pool) other = are_passed whose other
is_passed (WithRelay whose n pool) other = are_passed whose other
is_passed (LiveLost now lost) other = is_past_last lost other

-- behind the place only keys that are reached come
abbrev pub AllBehind : (Key → Bool) → Key → Type 0
AllBehind reached place =
    (other : Key) (row : Row) → IsRanged other → is_after (Some place) (other, row) ≡ true
    → reached other ≡ true

-- tests in their order
abbrev pub test_calls : Tables → Test → ℕ
test_calls t (Tested broken) = 0
test_calls t (HasSubscriber n) = 1
test_calls t (HasClass n) = 1
test_calls t (HasHub n) = 1
test_calls t (FindsNone sought) = rows_at (looks_at sought) t + 1
test_calls t (HasNoPool hub) = hub_calls t

abbrev pub tests_calls : Tables → List Test → ℕ
tests_calls t [] = 0
tests_calls t (test ∷ tests) = test_calls t test + tests_calls t tests

-- what is dropped with a pool's command, where the pool that was there is known
abbrev pub drop_calls_removing : Key → Option Pool → Tables → ℕ
drop_calls_removing (key.Pool n) old t = lease_calls OfModems old t
drop_calls_removing (key.DevicePool n) old t = lease_calls OfDevices old t
drop_calls_removing other old t = 0

abbrev pub drop_calls : Command → Option Pool → Tables → ℕ
drop_calls (PutPool n pool hub) old t = lease_calls OfModems old t
drop_calls (PutDevicePool n pool) old t = lease_calls OfDevices old t
drop_calls (Remove removed) old t = drop_calls_removing removed old t
drop_calls command old t = 0

-- the pool that is at the key of a command, if there is one
abbrev pub PoolStands : Tables → Key → Subject → Type 0
PoolStands t at subject = subject.pool ≡ option_and_then as_pool (seen_at t at)

abbrev pub IsPoolAt : Command → Subject → Tables → Type 0
IsPoolAt (PutHub n site) subject t = PoolStands t (key.Hub n) subject
IsPoolAt (PutSubscriber n subscriber) subject t = PoolStands t (key.Subscriber n) subject
IsPoolAt (PutAddOn n number settings) subject t = PoolStands t (key.AddOn n number) subject
IsPoolAt (PutModem mac modem) subject t = PoolStands t (key.Modem mac) subject
IsPoolAt (PutClass n class) subject t = PoolStands t (key.Class n) subject
IsPoolAt (PutPool n pool hub) subject t = PoolStands t (key.Pool n) subject
IsPoolAt (PutDevicePool n pool) subject t = PoolStands t (key.DevicePool n) subject
IsPoolAt (Remove removed) subject t = PoolStands t removed subject
IsPoolAt (Show shown) subject t = PoolStands t shown subject
IsPoolAt (Import kind batch digest rows) subject t = Unit {0}
