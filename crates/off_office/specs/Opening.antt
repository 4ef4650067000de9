-- How an office opens its tables. The site of earlier days becomes the hub 0, in one commit, which
-- is the last call of an opening; where there is no such site nothing is written.
use Rattle.std.specs.Prelude.{◌≡◌, ℕ, ◌+◌, ◌*◌, ◌≤◌, ◌⊎◌, false, List, [], ◌∷◌}
use Rattle.std.specs.FinMap as map
use Rattle.off_defs.specs.Told.{Told}
use Rattle.off_defs.specs.declared.writes.Write.{Write}
use Rattle.off_defs.specs.State.{Tables, State, start}
use Rattle.off_defs.specs.Tables.{doubt_behind}
use Rattle.off_account_rules.specs.declared.counts.Counts.{Counts}
use Rattle.off_account_rules.specs.Good.{Opens}
use Rattle.off_account_rules.specs.Migration.{migration, migrated}
use Rattle.off_book.specs.Crashes.{Steps, Saves}
use Rattle.off_outside.specs.KeeperSeen.{KeeperSeen}
use Rattle.off_outside.specs.KeeperCalls.{Settled, Spent}

-- what an opening makes of tables
abbrev pub IsMigrated : Tables → Tables → Type 0
IsMigrated before after = after ≡ migrated before

-- The tables opened, the migration was written, and P holds of what they are then. Tables that are
-- told say what was written; over a keeper that tells none nobody knows.
pub record OpensTo (P : Tables → Type 0) (old new : KeeperSeen) : Type 0 where
  pub opens : (t : Tables) → old.tables t → Opens t
  pub writes : List Write
  pub are : (t : Tables) → old.tables t → writes ≡ migration t
  pub settled : Settled writes old new
  pub tables : Told old.tables new.tables (λ t u. IsMigrated t u × P u)

-- What a crash leaves while tables open, up to the moment `at` at which they have: the tables as
-- they were, what was in doubt, or what they become.
pub record LeavesOpening (at : ℕ) (old new : KeeperSeen) (t : Tables) : Type 0 where
  pub later : old.moment ≤ at
  pub within : (m : ℕ) (u : Tables) → old.moment ≤ m → m ≤ at → new.opened m u →
      (u ≡ t) ⊎ (old.doubt u ⊎ IsMigrated t u)

-- what is in doubt then: nothing any more where the migration was committed
abbrev pub doubt_opened : KeeperSeen → Tables → Tables → Type 0
doubt_opened old t u = doubt_behind (migration t) (old.doubt u)

-- Steps over tables that were opened first: what a crash leaves while they open, up to the moment
-- `at`, and from then on.
pub record SavesOpened {X : Type 0} (steps : Steps X) (old new : KeeperSeen) (t : Tables)
    (done : List X) (last : State) : Type 0 where
  pub at : ℕ
  pub opening : LeavesOpening at old new t
  pub saves : Saves steps (doubt_opened old t) at (start (migrated t)) done new.opened new.doubt
      false new.moment last

-- the counts behind a migration: where it writes anything, the site of earlier days is the one hub
abbrev pub counts_behind : Counts → List Write → Counts
counts_behind counts [] = counts
counts_behind counts (write ∷ writes) = record counts { hubs = 1 }

-- so many walks over all rows at most, one call for the site of earlier days, and one for the
-- commit
abbrev pub WalksAndMigrates : ℕ → KeeperSeen → KeeperSeen → Type 0
WalksAndMigrates n old new =
    (t : Tables) → old.tables t → Spent (n * (map.len t + 1) + 2) old new
