-- What is seen of a keeper over a store whose rows are in memory.
use Rattle.std.specs.Prelude.{◌≡◌, ℕ, false}
use Rattle.off_defs.specs.State.{Tables}
use Rattle.off_defs.specs.Told.{Goes}
use Rattle.off_outside.specs.KeeperSeen.{KeeperSeen}
use Rattle.off_outside.specs.KeeperCalls.{NotDone}
use Rattle.off_outside.specs.declared.keeper.KeepErr.{KeepErr}
use Rattle.off_cached.specs.declared.cached.Cached.{Cached}
use Rattle.off_cached.specs.declared.cached.Cached.TheVariants.{Whole, Store}

-- It tells its tables, those in memory, whatever the store tells, and is always up. Its faults are
-- the store's. What a crash leaves is what the store keeps, of which it says nothing.
abbrev pub whole_seen : KeeperSeen → Tables → ℕ → ℕ → KeeperSeen
whole_seen store rows calls commits = record {
  tables = λ t. t ≡ rows;
  up = Unit {0};
  faults = store.faults;
  calls = calls;
  commits = commits;
  moment = 0;
  opened = λ moment tables. ⊥;
  doubt = λ tables. ⊥;
  waits = false;
}

-- where not all rows were read, what is seen is what is seen of the store
abbrev pub cached_seen : {K : Type 0} → (K → KeeperSeen) → Cached K → KeeperSeen
cached_seen seen (Whole whole) =
    whole_seen (seen whole.store) whole.rows.tables whole.calls whole.commits
cached_seen seen (Store store) = seen store

-- the store
abbrev pub store_of : {K : Type 0} → Cached K → K
store_of (Whole whole) = whole.store
store_of (Store store) = store

-- All rows were read: it tells tables, also where the store tells none, and where the store told
-- its tables it tells these.
pub record ReadWhole (store new : KeeperSeen) : Type 0 where
  pub tables : Goes new.tables (λ t. (s : Tables) → store.tables s → t ≡ s)
  pub up : new.up
  pub faults : new.faults ≡ store.faults
  pub calls : new.calls ≡ 0
  pub commits : new.commits ≡ 0

-- memory was wanted, or the store failed: the store is as before, but for its counts
abbrev pub LeftToStore : KeeperSeen → KeeperSeen → Type 0
LeftToStore store new = (err : KeepErr) × NotDone err store new

-- a keeper that was made over a store
abbrev pub BeginsOver : {K : Type 0} → (K → KeeperSeen) → KeeperSeen → Cached K → Type 0
BeginsOver seen store (Whole whole) =
    ReadWhole store (whole_seen (seen whole.store) whole.rows.tables whole.calls whole.commits)
BeginsOver seen store (Store new) = LeftToStore store (seen new)
