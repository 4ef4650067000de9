-- What is kept of pools, and what it stands for: pools with their numbers, the expiry of each
-- address and the hub of each pool. Which rows of the tables these are is told apart, so that the
-- leases of modems and those of devices are kept in one way.
use Rattle.std.specs.Prelude.{◌≡◌, ℕ, ◌+◌, ◌≤◌, ◌<◌, Bool, true, false, IsTrue, List, length, map, Option, Some, None, MatchOption}
use Rattle.std.specs.List.{All}
use Rattle.off_base.specs.declared.addresses.Ip4.{Ip4}
use Rattle.off_defs.specs.declared.tables.Pool.{Pool}
use Rattle.off_account_rules.specs.Rows.{pool_fits}
use Rattle.off_runs.specs.declared.runs.Run.{Run}
use Rattle.off_runs.specs.Runs.{AreRuns, in_pool, is_open, listed}

-- What stands in the tables
pub record Ground : Type 0 where
  pub pools : List (ℕ × Pool)
  pub expiry : ℕ → ℕ
  pub hub : ℕ → ℕ

-- What is kept of a pool: its number, itself, its hub, and the expiry of each of its addresses by
-- its place from the first, 0 where there's no lease
pub record PoolHeld : Type 0 where
  pub number : ℕ
  pub pool : Pool
  pub hub : ℕ
  pub expiries : List ℕ

-- What is kept of all, at its moment, and for how many more pools there is room in hand
pub record RunsHeld : Type 0 where
  pub at : ℕ
  pub pools : List PoolHeld
  pub spare : ℕ

abbrev pub head : PoolHeld → ℕ × Pool
head p = (p.number, p.pool)

abbrev pub heads : List PoolHeld → List (ℕ × Pool)
heads pools = map head pools

abbrev pub expiry_at : PoolHeld → ℕ → ℕ
expiry_at p a = listed p.pool.first.0 p.expiries a

-- a pool has the expiries of its own addresses, and the hub of its number
abbrev pub HasLeases : (ℕ → ℕ) → PoolHeld → Type 0
HasLeases expiry p = (a : ℕ) → in_pool p.pool a ≡ true → expiry_at p a ≡ expiry a

abbrev pub HasHub : (ℕ → ℕ) → PoolHeld → Type 0
HasHub hub p = p.hub ≡ hub p.number

-- these are the pools, each with its hub and with the expiries of its addresses
pub record KeepsPools (pools : List PoolHeld) (g : Ground) : Type 0 where
  pub heads_are : heads pools ≡ g.pools
  pub leases : All (HasLeases g.expiry) pools
  pub hubs : All (HasHub g.hub) pools

pub record StandsFor (h : RunsHeld) (g : Ground) (now : ℕ) : Type 0 where
  pub moment : h.at ≡ now
  pub keeps : KeepsPools h.pools g

-- the least free address of a pool, by the expiries of addresses
abbrev pub NoneOpen : (ℕ → ℕ) → ℕ → Pool → Type 0
NoneOpen expiry now pool = (b : ℕ) → is_open expiry now pool b ≡ false

pub record IsLeastOpen (expiry : ℕ → ℕ) (now : ℕ) (pool : Pool) (a : Ip4) : Type 0 where
  pub free : is_open expiry now pool a.0 ≡ true
  pub least : (b : ℕ) → is_open expiry now pool b ≡ true → a.0 ≤ b

abbrev pub IsLeastOf : Option PoolHeld → ℕ → Option Ip4 → Type 0
IsLeastOf None now least = least ≡ None
IsLeastOf (Some p) now least =
    MatchOption least (NoneOpen (expiry_at p) now p.pool) (IsLeastOpen (expiry_at p) now p.pool)

-- Of each pool the runs are kept that were laid out at a moment, with the soonest expiry that was
-- ahead then: they are those of its expiries until that comes, unless a lease was written since.
pub record Laid (pool : Pool) (expiries : List ℕ) (at : ℕ) (runs : List Run) (soonest : ℕ) :
    Type 0 where
  pub runs_are : AreRuns pool (is_open (listed pool.first.0 expiries) at pool) runs
  pub none_sooner : (a : ℕ) → in_pool pool a ≡ true → at < listed pool.first.0 expiries a →
      soonest ≤ listed pool.first.0 expiries a

pub record KeepsRuns (pool : Pool) (expiries : List ℕ) (at : ℕ) (runs : List Run) (soonest : ℕ)
    (is_stale : Bool) (room : ℕ) : Type 0 where
  pub fits : IsTrue (pool_fits pool)
  pub sized : length expiries ≡ 4096
  pub roomy : 2048 ≤ room
  pub laid : is_stale ≡ false → Laid pool expiries at runs soonest

-- all pools fit into each of three lists, by their lengths and capacities, and none is aside
pub record HasRoom (pools retired spare in_pools in_retired in_spare : ℕ) : Type 0 where
  pub first : pools + spare ≤ in_pools
  pub second : pools + spare ≤ in_retired
  pub third : pools + spare ≤ in_spare
  pub none : retired ≡ 0
