-- The runs of the pools of modems: which rows of the tables they are, and which writes change them.
-- What is kept of other pools has a file like this one of its own.
use Rattle.std.specs.Prelude.{◌≡◌, ℕ, ◌+◌, ◌<◌, ◌==◌, true, T, List, [], ◌∷◌, Option, Some, None, if◌then◌else◌}
use Rattle.std.specs.List.{All, list_any}
use Rattle.std.specs.Ordering.{nat_cmp}
use Rattle.std.specs.FinMap.Entries as list
use Rattle.off_defs.specs.declared.keys.Key.TheVariants as key
use Rattle.off_defs.specs.declared.tables.Row.{Row}
use Rattle.off_defs.specs.declared.tables.Row.TheVariants as row
use Rattle.off_defs.specs.declared.tables.Pool.{Pool}
use Rattle.off_defs.specs.declared.tables.Lease.{Lease}
use Rattle.off_defs.specs.declared.writes.Write.{Write}
use Rattle.off_defs.specs.declared.writes.Write.TheVariants.{Put, Drop}
use Rattle.off_defs.specs.State.{Tables}
use Rattle.off_defs.specs.Tables.{write_all}
use Rattle.off_account_rules.specs.Good.{Opens}
use Rattle.off_account_rules.specs.Rows.{pool_fits, pools, pool_in, pool_hub_in, lease_in}
use Rattle.off_runs.specs.Runs.{address, in_pool}
use Rattle.off_runs.specs.Held.{Ground, PoolHeld, heads, HasLeases, HasHub}
use Rattle.off_runs.specs.Shelf.{with_pool}

-- what stands in the tables: an address without a lease has expiry 0
abbrev pub expiry_of : Option Lease → ℕ
expiry_of None = 0
expiry_of (Some lease) = lease.expiry.0

abbrev pub expiry_in : Tables → ℕ → ℕ
expiry_in t a = expiry_of (lease_in t (address a))

abbrev pub ground : Tables → Ground
ground t = record { pools = pools t; expiry = expiry_in t; hub = pool_hub_in t }

-- the pool that a write makes of a number, and what a write makes of an address's expiry
abbrev pub fitting : Row → Option Pool
fitting (row.Pool pool) = if pool_fits pool then Some pool else None
fitting held = None

abbrev pub pool_write : Write → Option (ℕ × Option Pool)
pool_write (Put (key.Pool n) held) = Some (n, fitting held)
pool_write (Drop (key.Pool n)) = Some (n, None)
pool_write write = None

abbrev pub expiry_held : Row → ℕ
expiry_held (row.Lease lease) = lease.expiry.0
expiry_held held = 0

abbrev pub lease_write : Write → Option (ℕ × ℕ)
lease_write (Put (key.Lease a) held) = Some (a.0, expiry_held held)
lease_write (Drop (key.Lease a)) = Some (a.0, 0)
lease_write write = None

-- what a write makes of the hub of a pool's number
abbrev pub hub_held : Row → ℕ
hub_held (row.PoolHub hub) = hub
hub_held held = 0

abbrev pub hub_write : Write → Option (ℕ × ℕ)
hub_write (Put (key.PoolHub n) held) = Some (n, hub_held held)
hub_write (Drop (key.PoolHub n)) = Some (n, 0)
hub_write write = None

-- the pools by number, after writes
abbrev pub pools_by : Option (ℕ × Option Pool) → (ℕ → Option Pool) → ℕ → Option Pool
pools_by None by = by
pools_by (Some (n, pool)) by = with_pool by n pool

abbrev pub pools_after : (ℕ → Option Pool) → List Write → ℕ → Option Pool
pools_after by [] = by
pools_after by (write ∷ writes) = pools_after (pools_by (pool_write write) by) writes

-- what stands at each number after writes, each of which puts one number's or none's
abbrev pub numbers_by : Option (ℕ × ℕ) → (ℕ → ℕ) → ℕ → ℕ
numbers_by None was = was
numbers_by (Some (n, held)) was = λ m. if m == n then held else was m

abbrev pub numbers_after : (Write → Option (ℕ × ℕ)) → (ℕ → ℕ) → List Write → ℕ → ℕ
numbers_after put was [] = was
numbers_after put was (write ∷ writes) = numbers_after put (numbers_by (put write) was) writes

abbrev pub expiries_after : (ℕ → ℕ) → List Write → ℕ → ℕ
expiries_after expiry writes = numbers_after lease_write expiry writes

abbrev pub hubs_after : (ℕ → ℕ) → List Write → ℕ → ℕ
hubs_after hub writes = numbers_after hub_write hub writes

-- how many pools are put
abbrev pub puts_pool : Write → ℕ
puts_pool (Put (key.Pool n) held) = 1
puts_pool write = 0

abbrev pub pool_puts : List Write → ℕ
pool_puts [] = 0
pool_puts (write ∷ writes) = puts_pool write + pool_puts writes

-- pools have taken the leases of writes, or the hubs
pub record LeasesTaken (writes : List Write) (old new : List PoolHeld) : Type 0 where
  pub heads_are : heads new ≡ heads old
  pub hubs : (hub : ℕ → ℕ) → All (HasHub hub) old → All (HasHub hub) new
  pub leases : (expiry : ℕ → ℕ) → All (HasLeases expiry) old →
      All (HasLeases (expiries_after expiry writes)) new

pub record HubsTaken (writes : List Write) (old new : List PoolHeld) : Type 0 where
  pub heads_are : heads new ≡ heads old
  pub leases : (expiry : ℕ → ℕ) → All (HasLeases expiry) old → All (HasLeases expiry) new
  pub hubs : (hub : ℕ → ℕ) → All (HasHub hub) old → All (HasHub (hubs_after hub writes)) new

-- What writes make of the ground that pools stand on: its pools are sorted by number, before and
-- after, and those after are what the writes made of those before, as its expiries and hubs are;
-- before, an address that has a lease lies in a pool, and a number that has a hub is a pool's.
pub record Moves (writes : List Write) (by : ℕ → Option Pool) (g h : Ground) : Type 0 where
  pub before_sorted : T (list.is_sorted nat_cmp g.pools)
  pub before : (n : ℕ) → list.find nat_cmp n g.pools ≡ by n
  pub around : (a : ℕ) → 0 < g.expiry a → list_any (λ e. in_pool e.1 a) g.pools ≡ true
  pub homed : (n : ℕ) → 0 < g.hub n → list_any (λ e. e.0 == n) g.pools ≡ true
  pub after_sorted : T (list.is_sorted nat_cmp h.pools)
  pub after : (n : ℕ) → list.find nat_cmp n h.pools ≡ pools_after by writes n
  pub expiries : (a : ℕ) → expiries_after g.expiry writes a ≡ h.expiry a
  pub hubs : (n : ℕ) → hubs_after g.hub writes n ≡ h.hub n

-- all writes move the ground of tables that open so, whatever they leave
abbrev pub LeasesMove : Type 0
LeasesMove =
    (t : Tables) → Opens t → (writes : List Write) →
    Moves writes (pool_in t) (ground t) (ground (write_all t writes))
