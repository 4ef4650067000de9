-- The keeper in memory: what it holds, and exactly what each call makes of it.
use Rattle.std.specs.Prelude.{◌≡◌, ℕ, false, ◌≤◌, max, List, Result, MatchResult}
use Rattle.std.specs.FinMap as map
use Rattle.off_defs.specs.declared.writes.Write.{Write}
use Rattle.off_defs.specs.State.{Tables}
use Rattle.off_defs.specs.Tables.{write_all}
use Rattle.off_defs.specs.Counts.{one_more, most_count}
use Rattle.off_outside.specs.InMemory.{CallsHeld, one_called, IsToFail}
use Rattle.off_outside.specs.KeeperSeen.{KeeperSeen}
use Rattle.off_outside.specs.declared.keeper.KeepErr.{KeepErr}
use Rattle.off_outside.specs.declared.keeper.KeepErr.TheVariants.{Memory, Failed}

-- its tables, and how many empty shelves it has in stock for rows to come
pub record MemKeeperHeld : Type 0 where
  pub tables : Tables
  pub spare : ℕ
  pub calls : CallsHeld
  pub faults : ℕ
  pub commits : ℕ

-- a new one
abbrev pub empty_keeper : List ℕ → MemKeeperHeld
empty_keeper fails =
    record {
      tables = map.empty;
      spare = 0;
      calls = record { listed = fails; made = 0 };
      faults = 0;
      commits = 0;
    }

-- it tells its tables, and is always up. Its tables don't outlive the program, so it says nothing
-- of a crash
abbrev pub keeper_seen : MemKeeperHeld → KeeperSeen
keeper_seen m = record {
  tables = λ tables. tables ≡ m.tables;
  up = Unit {0};
  faults = m.faults;
  calls = m.calls.made;
  commits = m.commits;
  moment = 0;
  opened = λ moment tables. ⊥;
  doubt = λ tables. ⊥;
  waits = false;
}

-- what is seen of a keeper in memory is all that it holds
pub record KeeperTells (m : MemKeeperHeld) (seen : KeeperSeen) : Type 0 where
  pub tables : seen.tables m.tables
  pub up : seen.up
  pub faults : seen.faults ≡ m.faults
  pub calls : seen.calls ≡ m.calls.made
  pub commits : seen.commits ≡ m.commits

-- the call counted, and nothing else
abbrev pub keeper_called : MemKeeperHeld → MemKeeperHeld
keeper_called m = record m { calls = one_called m.calls }

-- the tables are read where the call isn't listed
pub record MemRead (old new : MemKeeperHeld) : Type 0 where
  pub unlisted : ¬ (IsToFail old.calls)
  pub fits : old.calls.made ≤ most_count
  pub after : new ≡ keeper_called old

-- all writes are done where the call isn't listed
pub record MemCommitted (writes : List Write) (old new : MemKeeperHeld) : Type 0 where
  pub unlisted : ¬ (IsToFail old.calls)
  pub fits : old.calls.made ≤ most_count
  pub tables : new.tables ≡ write_all old.tables writes
  pub calls : new.calls ≡ one_called old.calls
  pub faults : new.faults ≡ old.faults
  pub commits : new.commits ≡ one_more old.commits

-- a listed call fails, and no other
abbrev pub IsCause : KeepErr → CallsHeld → Type 0
IsCause Memory calls = ¬ (IsToFail calls)
IsCause Failed calls = IsToFail calls

abbrev pub faults_after : KeepErr → ℕ → ℕ
faults_after Memory faults = faults
faults_after Failed faults = one_more faults

pub record MemUndone (err : KeepErr) (old new : MemKeeperHeld) : Type 0 where
  pub cause : IsCause err old.calls
  pub tables : new.tables ≡ old.tables
  pub calls : new.calls ≡ one_called old.calls
  pub calls_fit : old.calls.made ≤ most_count
  pub fits : old.faults ≤ most_count
  pub faults : new.faults ≡ faults_after err old.faults
  pub commits : new.commits ≡ old.commits

-- All but the stock of shelves is as before, and that has as many as are wanted at most, unless it
-- had more
pub record SameButSpare (wanted : ℕ) (old new : MemKeeperHeld) : Type 0 where
  pub tables : new.tables ≡ old.tables
  pub calls : new.calls ≡ old.calls
  pub faults : new.faults ≡ old.faults
  pub commits : new.commits ≡ old.commits
  pub spare : old.spare ≤ new.spare
  pub most : new.spare ≤ max old.spare wanted

-- what each call does, by the answer
abbrev pub MemLooks : {A : Type 0} → Result A KeepErr → MemKeeperHeld → MemKeeperHeld →
    (A → Tables → Type 0) → Type 0
MemLooks result old new P =
    MatchResult result (λ x. P x old.tables × MemRead old new) (λ err. MemUndone err old new)

abbrev pub MemCommits : Result (Unit {0}) KeepErr → MemKeeperHeld → MemKeeperHeld → List Write →
    Type 0
MemCommits result old new writes =
    MatchResult result (λ _. MemCommitted writes old new) (λ err. MemUndone err old new)
