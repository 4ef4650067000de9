-- What becomes of a pool that is kept.
use Rattle.std.specs.Prelude.{◌≡◌, ℕ, ◌+◌, ◌-◌, ◌≤◌, ◌<◌, ◌==◌, Bool, true, false, not, ◌&&◌, nat_le, nat_lt, List, [], ◌∷◌, ◌++◌, length, take, drop, suc, get_or, Option, Some, None, if◌then◌else◌}
use Rattle.std.specs.List.{All, list_any}
use Rattle.off_base.specs.declared.addresses.Ip4.{Ip4}
use Rattle.off_defs.specs.declared.tables.Pool.{Pool}
use Rattle.off_runs.specs.declared.runs.Run.{Run}
use Rattle.off_runs.specs.Runs.{address, in_pool, listed}
use Rattle.off_runs.specs.Held.{PoolHeld, expiry_at, HasLeases}

pub record SamePool (old new : PoolHeld) : Type 0 where
  pub number : new.number ≡ old.number
  pub pool : new.pool ≡ old.pool
  pub hub : new.hub ≡ old.hub

abbrev pub IsSame : PoolHeld → PoolHeld → Type 0
IsSame old new = new ≡ old

-- the lease of an address changed
pub record Wrote (address expiry : ℕ) (old new : PoolHeld) : Type 0 where
  pub same : SamePool old new
  pub leases : (a : ℕ) → in_pool old.pool a ≡ true →
      expiry_at new a ≡ (if a == address then expiry else expiry_at old a)

-- the pool of a number has another hub
abbrev pub Rehubbed : ℕ → ℕ → PoolHeld → PoolHeld → Type 0
Rehubbed number hub old new =
    new ≡ record old { hub = if old.number == number then hub else old.hub }

-- each pool of a list became one of another
pub record EachBecomes {A : Type 0} (R : A → A → Type 0) (old new : List A) : Type 0 where
  pub lengths : length new ≡ length old
  pub each : (k : ℕ) (x : A) → k < length old → R (get_or old k x) (get_or new k x)

-- some pool of the list has the address
abbrev pub surrounds : ℕ → PoolHeld → Bool
surrounds a p = in_pool p.pool a

abbrev pub surrounded : List PoolHeld → ℕ → Bool
surrounded pools a = list_any (surrounds a) pools

-- some pool of the list has the number
abbrev pub is_numbered : ℕ → PoolHeld → Bool
is_numbered n p = p.number == n

abbrev pub numbered : List PoolHeld → ℕ → Bool
numbered pools n = list_any (is_numbered n) pools

abbrev pub hub_or_0 : Option PoolHeld → ℕ
hub_or_0 None = 0
hub_or_0 (Some p) = p.hub

-- A new pool has the expiries of those addresses that a pool of the list has, and no others
abbrev pub HasGathered : (ℕ → ℕ) → List PoolHeld → PoolHeld → Type 0
HasGathered expiry seen p =
    (a : ℕ) → in_pool p.pool a ≡ true →
    expiry_at p a ≡ (if surrounded seen a then expiry a else 0)

-- the first address of runs
abbrev pub first_of : List Run → Option Ip4
first_of [] = None
first_of (run ∷ runs) = Some run.first

-- the addresses but one; and below, what is left of a run without one of its addresses
abbrev pub but_address : ℕ → (ℕ → Bool) → ℕ → Bool
but_address out free a = not (a == out) && free a

-- the expiries of addresses, with another one for this address
abbrev pub with_expiry : ℕ → ℕ → (ℕ → ℕ) → ℕ → ℕ
with_expiry address expiry before a = if a == address then expiry else before a

abbrev pub ends_before : ℕ → Run → Type 0
ends_before a run = run.last.0 < a

abbrev pub pieces_by : Bool → Bool → ℕ → Run → List Run
pieces_by true true out run =
    record run { last = address (out - 1) } ∷ record run { first = address (out + 1) } ∷ []
pieces_by true false out run = record run { last = address (out - 1) } ∷ []
pieces_by false true out run = record run { first = address (out + 1) } ∷ []
pieces_by false false out run = []

abbrev pub pieces_without : ℕ → Run → List Run
pieces_without out run = pieces_by (nat_lt run.first.0 out) (nat_lt out run.last.0) out run

abbrev pub runs_without : ℕ → ℕ → Run → List Run → List Run
runs_without out place run runs =
    take place runs ++ (pieces_without out run ++ drop (suc place) runs)

-- It has the pool of the number, and no address of it has a lease
pub record Began (number : ℕ) (pool : Pool) (hub : ℕ) (p : PoolHeld) : Type 0 where
  pub number_is : p.number ≡ number
  pub pool_is : p.pool ≡ pool
  pub hub_is : p.hub ≡ hub
  pub none : (a : ℕ) → expiry_at p a ≡ 0

-- it has the expiries of another pool where that has the address; or of each of a part of a list
pub record Copied (other old new : PoolHeld) : Type 0 where
  pub same : SamePool old new
  pub leases : (a : ℕ) → in_pool old.pool a ≡ true →
      expiry_at new a ≡ (if in_pool other.pool a then expiry_at other a else expiry_at old a)

pub record CopiedAll (all part : List PoolHeld) (old new : PoolHeld) : Type 0 where
  pub same : SamePool old new
  pub leases : (expiry : ℕ → ℕ) (seen : List PoolHeld) → All (HasLeases expiry) all →
      HasGathered expiry seen old → HasGathered expiry (seen ++ part) new

-- The addresses from low to high have the expiries of another list, and the others their own
abbrev pub is_between : ℕ → ℕ → ℕ → Bool
is_between low high a = nat_le low a && nat_le a high

abbrev pub HasPart : ℕ → ℕ → ℕ → List ℕ → ℕ → List ℕ → List ℕ → Type 0
HasPart low high from_first from first old new =
    (a : ℕ) → first ≤ a →
    listed first new a
    ≡ (if is_between low high a then listed from_first from a else listed first old a)
