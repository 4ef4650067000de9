-- What is seen of a keeper over a journal, and what it keeps of its disk.
use Rattle.std.specs.Prelude.{◌≡◌, ℕ, ◌+◌, ◌≤◌, ◌^◌, ◌⊎◌, ◌++◌, List, length}
use Rattle.std.specs.Prelude.{map as each, false, Result, Ok, Err}
use Rattle.off_defs.specs.declared.writes.Write.{Write}
use Rattle.off_defs.specs.State.{Tables}
use Rattle.off_defs.specs.Tables.{write_all}
use Rattle.off_defs.specs.Counts.{Grew, one_more, most_count}
use Rattle.off_outside.specs.KeeperSeen.{KeeperSeen}
use Rattle.off_outside.specs.KeeperCalls.{Crash}
use Rattle.off_outside.specs.declared.keeper.KeepErr.{KeepErr}
use Rattle.off_outside.specs.declared.keeper.KeepErr.TheVariants.{Memory, Failed}
use Rattle.off_disk.specs.DiskSeen.{DiskSeen}
use Rattle.off_disk.specs.Records.{blocks, IsClosed, IsDoubtful}
use Rattle.off_spelled.specs.Storable.{IsSpelled, AllSpelled}
use Rattle.off_journal.specs.Payload.{payload_of, write_bytes}
use Rattle.off_journal.specs.Journal.{tables_of, Opens, IsCommit, AreCommits}
use Rattle.off_disk.specs.Crashing.{AllLeft, closed_record}
use Rattle.off_journal.specs.declared.keeper.Last.{Last}
use Rattle.off_journal.specs.declared.keeper.Last.TheVariants.{Closed, Doubtful}
use Rattle.off_journal.specs.declared.keeper.Counts.{Counts}

-- what each file is that a crash may leave, in each of the two states
abbrev pub LastIs : Last → List (List ℕ) → List ℕ → Type 0
LastIs Closed payloads c = IsClosed payloads c
LastIs (Doubtful refused) payloads c = IsDoubtful payloads (payload_of refused) c

abbrev pub LastFits : Last → Type 0
LastFits Closed = Unit {0}
LastFits (Doubtful refused) = IsCommit refused

-- The tables are those of commits, whose records stand behind open gates in each file that a crash
-- may leave, and no others do, but for one refused commit.
pub record Keeps (rows : Tables) (gate : ℕ) (last : Last) (disk : DiskSeen) : Type 0 where
  pub commits : List (List Write)
  pub are : AreCommits commits
  pub tables : rows ≡ tables_of commits
  pub place : length (blocks (each payload_of commits)) ≡ gate
  pub fits : LastFits last
  pub all : AllLeft (LastIs last (each payload_of commits)) disk

-- the tables with the refused commit
abbrev pub doubt_of : Last → Tables → Tables → Type 0
doubt_of Closed rows u = ⊥
doubt_of (Doubtful refused) rows u = u ≡ write_all rows refused

abbrev pub journal_seen : DiskSeen → Tables → ℕ → Last → Counts → KeeperSeen
journal_seen disk rows gate last counts = record {
  tables = λ t. (t ≡ rows) × Keeps rows gate last disk;
  up = Unit {0};
  faults = disk.faults + counts.own;
  calls = counts.calls;
  commits = counts.commits;
  moment = disk.moment;
  opened = λ m u. (c : List ℕ) × (disk.left m c × Opens c u);
  doubt = doubt_of last rows;
  waits = false;
}

-- a fault of the own was counted
abbrev pub CountsOne : ℕ → ℕ → Type 0
CountsOne old new = (new ≡ one_more old) × (old ≤ most_count)

-- what is made of a write: its bytes behind the others
abbrev pub WritePushed : Result (Unit {0}) KeepErr → Write → List ℕ → List ℕ → ℕ → ℕ → Type 0
WritePushed (Ok x) write before after old new =
    IsSpelled write × ((after ≡ before ++ write_bytes write) × (new ≡ old))
WritePushed (Err Memory) write before after old new = new ≡ old
WritePushed (Err Failed) write before after old new = (¬ IsSpelled write) × CountsOne old new

abbrev pub PayloadSpelled : Result (List ℕ) KeepErr → List Write → ℕ → ℕ → Type 0
PayloadSpelled (Ok bytes) writes old new =
    AllSpelled writes × ((bytes ≡ payload_of writes) × (new ≡ old))
PayloadSpelled (Err Memory) writes old new = new ≡ old
PayloadSpelled (Err Failed) writes old new = (¬ AllSpelled writes) × CountsOne old new

-- writes that can be committed: each has a spelling, and all together aren't too long
pub record CanCommit (writes : List Write) : Type 0 where
  pub spelled : AllSpelled writes
  pub short : length (payload_of writes) ≤ 2 ^ 31

abbrev pub RecordSpelled : Result (List ℕ) KeepErr → List Write → ℕ → ℕ → Type 0
RecordSpelled (Ok bytes) writes old new =
    CanCommit writes × ((bytes ≡ closed_record (payload_of writes)) × (new ≡ old))
RecordSpelled (Err Memory) writes old new = new ≡ old
RecordSpelled (Err Failed) writes old new = (¬ CanCommit writes) × CountsOne old new

-- what a commit does to the own count
abbrev pub OwnCommitted : Result (Unit {0}) KeepErr → List Write → ℕ → ℕ → Type 0
OwnCommitted (Ok x) writes old new = CanCommit writes × (new ≡ old)
OwnCommitted (Err Memory) writes old new = new ≡ old
OwnCommitted (Err Failed) writes old new =
    (CanCommit writes × (new ≡ old)) ⊎ ((¬ CanCommit writes) × CountsOne old new)

-- a failed commit has raised the count of the disk or the own one
abbrev pub FailsByCause : Result (Unit {0}) KeepErr → DiskSeen → DiskSeen → ℕ → ℕ → Type 0
FailsByCause (Ok x) old new own_before own_after = Unit {0}
FailsByCause (Err Memory) old new own_before own_after = Unit {0}
FailsByCause (Err Failed) old new own_before own_after =
    Grew 1 old.faults new.faults ⊎ Grew 1 own_before own_after

-- what was begun where nothing is
abbrev pub Nothing : Tables → Tables → Type 0
Nothing before after = ⊥

-- A settling: the tables stay, nothing is begun; and where it is done nothing is in doubt.
pub record Settling (old new : KeeperSeen) : Type 0 where
  pub tables : (t : Tables) → old.tables t → new.tables t
  pub commits : new.commits ≡ old.commits
  pub calls : new.calls ≡ old.calls
  pub waits : new.waits ≡ old.waits
  pub crash : Crash Nothing old new

pub record HasSettled (old new : KeeperSeen) : Type 0 where
  pub settling : Settling old new
  pub faults : new.faults ≡ old.faults
  pub sure : (u : Tables) → new.doubt u → ⊥

pub record NotSettled (old new : KeeperSeen) : Type 0 where
  pub settling : Settling old new
  pub faults : Grew 1 old.faults new.faults
