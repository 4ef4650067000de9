-- What each call of a keeper does to each of its meanings.
use Rattle.std.specs.Prelude.{◌≡◌, ℕ, ◌+◌, ◌<◌, ◌≤◌, ◌⊎◌, Bool, true, false, List, [], ◌∷◌, Result, MatchResult}
use Rattle.std.specs.FinMap as map
use Rattle.off_defs.specs.declared.writes.Write.{Write}
use Rattle.off_defs.specs.State.{Tables}
use Rattle.off_defs.specs.Tables.{write_all, doubt_behind}
use Rattle.off_defs.specs.Told.{Told}
use Rattle.off_defs.specs.Counts.{Grew, Tallied, one_more, commits_after}
use Rattle.off_outside.specs.KeeperSeen.{KeeperSeen}
use Rattle.off_outside.specs.declared.keeper.KeepErr.{KeepErr}
use Rattle.off_outside.specs.declared.keeper.KeepErr.TheVariants.{Memory, Failed as FailedCall}
use Rattle.off_outside.specs.declared.link.Failed.{Failed}

-- how many faults an error counts: want of memory is no failure
abbrev pub keeper_faults_in : KeepErr → ℕ
keeper_faults_in Memory = 0
keeper_faults_in FailedCall = 1

-- the keeper stays up, or has counted a fault
abbrev pub StaysUp : KeeperSeen → KeeperSeen → Type 0
StaysUp old new = old.up → new.up ⊎ Grew 1 old.faults new.faults

-- Nothing was begun: a crash meanwhile leaves what one before could, and nothing more is in doubt.
pub record Still (old new : KeeperSeen) : Type 0 where
  pub later : old.moment ≤ new.moment
  pub past : (m : ℕ) (u : Tables) → m ≤ old.moment → new.opened m u → old.opened m u
  pub within : (m : ℕ) (u : Tables) → old.moment ≤ m → m ≤ new.moment → new.opened m u →
      old.opened old.moment u
  pub doubts : (u : Tables) → new.doubt u → old.doubt u

-- A commit was begun that makes tables u of tables t as P says: a crash meanwhile leaves the
-- tables, or what was in doubt, or u.
pub record Crash (P : Tables → Tables → Type 0) (old new : KeeperSeen) : Type 0 where
  pub later : old.moment ≤ new.moment
  pub past : (m : ℕ) (u : Tables) → m ≤ old.moment → new.opened m u → old.opened m u
  pub within : (t : Tables) → old.tables t → (m : ℕ) (u : Tables) → old.moment < m →
      m ≤ new.moment → new.opened m u
      → (u ≡ t) ⊎ (old.doubt u ⊎ P t u)
  pub doubts : (t : Tables) → old.tables t → (u : Tables) → new.doubt u → old.doubt u ⊎ P t u

-- nothing was written, no fault was counted, and the keeper stays up
pub record Quiet (old new : KeeperSeen) : Type 0 where
  pub up : old.up → new.up
  pub faults : new.faults ≡ old.faults
  pub commits : new.commits ≡ old.commits
  pub waits : new.waits ≡ old.waits
  pub still : Still old new

-- The tables were read: P holds of them, and they are told still. It holds of one call, and of
-- several in a row.
pub record Reads (P : Tables → Type 0) (old new : KeeperSeen) : Type 0 where
  pub tables : (t : Tables) → old.tables t → new.tables t × P t
  pub quiet : Quiet old new

-- nothing was done: the tables are as before, and no fault was counted where memory was wanted
pub record NotDone (err : KeepErr) (old new : KeeperSeen) : Type 0 where
  pub tables : (t : Tables) → old.tables t → new.tables t
  pub up : StaysUp old new
  pub faults : Tallied (keeper_faults_in err) old.faults new.faults
  pub commits : new.commits ≡ old.commits
  pub waits : new.waits ≡ old.waits
  pub still : Still old new

-- what writes make of tables
abbrev pub IsWritten : List Write → Tables → Tables → Type 0
IsWritten writes before after = after ≡ write_all before writes

-- The writes were done, all of them, and all that waited before them: nothing waits any more, and
-- nothing is in doubt.
pub record Committed (writes : List Write) (old new : KeeperSeen) : Type 0 where
  pub tables : Told old.tables new.tables (IsWritten writes)
  pub up : old.up → new.up
  pub faults : new.faults ≡ old.faults
  pub commits : new.commits ≡ one_more old.commits
  pub waits : new.waits ≡ false
  pub crash : Crash (IsWritten writes) old new
  pub sure : (t : Tables) → old.tables t → (u : Tables) → new.doubt u → ⊥

-- what a commit has begun that wasn't done: nothing, where memory was wanted
abbrev pub begun_by : KeepErr → (Tables → Tables → Type 0) → Tables → Tables → Type 0
begun_by Memory P before after = ⊥
begun_by FailedCall P before after = P before after

-- none of the writes was done: the tables are as before, and what waited waits
pub record NotCommitted (P : Tables → Tables → Type 0) (err : KeepErr)
    (old new : KeeperSeen) : Type 0 where
  pub tables : (t : Tables) → old.tables t → new.tables t
  pub up : StaysUp old new
  pub faults : Tallied (keeper_faults_in err) old.faults new.faults
  pub commits : new.commits ≡ old.commits
  pub waits : new.waits ≡ old.waits
  pub crash : Crash (begun_by err P) old new

-- a call that looks at the tables, and one that commits writes, by the answer
abbrev pub Looks : {A : Type 0} → Result A KeepErr → KeeperSeen → KeeperSeen →
    (A → Tables → Type 0) → Type 0
Looks result old new P = MatchResult result (λ x. Reads (P x) old new) (λ err. NotDone err old new)

abbrev pub Commits : Result (Unit {0}) KeepErr → KeeperSeen → KeeperSeen → List Write → Type 0
Commits result old new writes =
    MatchResult result (λ _. Committed writes old new)
    (λ err. NotCommitted (IsWritten writes) err old new)

-- The tables are those before, or those that writes make of them. What is in doubt after a call
-- that has writes wait is so of this: a crash may leave the tables before it too.
abbrev pub WrittenOrNot : List Write → Tables → Tables → Type 0
WrittenOrNot writes before after = (after ≡ before) ⊎ IsWritten writes before after

-- The writes were done in the tables that are told. They wait to be saved; or, if nothing waits after
-- the call, they are saved with all that waited before them, and then nothing is in doubt, unless
-- there were no writes.
pub record Staged (writes : List Write) (old new : KeeperSeen) : Type 0 where
  pub tables : Told old.tables new.tables (IsWritten writes)
  pub up : old.up → new.up
  pub faults : new.faults ≡ old.faults
  pub commits : new.commits ≡ one_more old.commits
  pub crash : Crash (WrittenOrNot writes) old new
  pub sure : new.waits ≡ false → (t : Tables) → old.tables t → (u : Tables) → new.doubt u →
      doubt_behind writes (old.doubt u)

-- a call that does writes in the tables and may have them wait, by the answer
abbrev pub Stages : Result (Unit {0}) KeepErr → KeeperSeen → KeeperSeen → List Write → Type 0
Stages result old new writes =
    MatchResult result (λ _. Staged writes old new)
    (λ err. NotCommitted (IsWritten writes) err old new)

-- the tables as they were
abbrev pub IsSame : Tables → Tables → Type 0
IsSame before after = after ≡ before

-- what is in doubt after a call that has saved what waited: nothing, if anything waited
abbrev pub doubt_saved : Bool → Type 0 → Type 0
doubt_saved true doubt = ⊥
doubt_saved false doubt = doubt

-- What waited is saved, and the tables are as before. A crash meanwhile leaves these, or what was in
-- doubt before.
pub record Secured (old new : KeeperSeen) : Type 0 where
  pub tables : (t : Tables) → old.tables t → new.tables t
  pub up : old.up → new.up
  pub faults : new.faults ≡ old.faults
  pub commits : new.commits ≡ old.commits
  pub waits : new.waits ≡ false
  pub crash : Crash IsSame old new
  pub sure : (t : Tables) → old.tables t → (u : Tables) → new.doubt u →
      doubt_saved old.waits (old.doubt u)

-- It isn't: what waited waits, and the keeper has counted a fault.
pub record NotSecured (old new : KeeperSeen) : Type 0 where
  pub tables : (t : Tables) → old.tables t → new.tables t
  pub up : StaysUp old new
  pub faults : Grew 1 old.faults new.faults
  pub commits : new.commits ≡ old.commits
  pub waits : new.waits ≡ old.waits
  pub crash : Crash IsSame old new

-- a call that saves what waits, by the answer: it fails by a fault alone, and wants no memory
abbrev pub Secures : Result (Unit {0}) Failed → KeeperSeen → KeeperSeen → Type 0
Secures result old new = MatchResult result (λ _. Secured old new) (λ _. NotSecured old new)

-- at most n calls were made
pub record Spent (n : ℕ) (old new : KeeperSeen) : Type 0 where
  pub later : old.calls ≤ new.calls
  pub most : new.calls ≤ old.calls + n

-- one walk over all rows: a call for each of them at most, and one more that finds the end
abbrev pub WalksOnce : KeeperSeen → KeeperSeen → Type 0
WalksOnce old new = (t : Tables) → old.tables t → Spent (map.len t + 1) old new

-- the call was counted, whatever it answered
pub record WasCounted (old new : KeeperSeen) : Type 0 where
  pub later : old.calls ≤ new.calls
  pub one : new.calls ≡ one_more old.calls

-- no call was made: all is as it was
pub record Unasked (old new : KeeperSeen) : Type 0 where
  pub tables : (t : Tables) → old.tables t → new.tables t
  pub quiet : Quiet old new
  pub calls : new.calls ≡ old.calls

-- what waits after a commit of these writes: nothing, if there were any
abbrev pub waits_after : List Write → Bool → Bool
waits_after [] waits = waits
waits_after (write ∷ writes) waits = false

-- What was planned was done: the writes in one commit, where there are any, and else nothing.
pub record Settled (writes : List Write) (old new : KeeperSeen) : Type 0 where
  pub tables : Told old.tables new.tables (IsWritten writes)
  pub up : old.up → new.up
  pub faults : new.faults ≡ old.faults
  pub commits : new.commits ≡ commits_after writes old.commits
  pub waits : new.waits ≡ waits_after writes old.waits
  pub crash : Crash (IsWritten writes) old new
  pub doubts : (t : Tables) → old.tables t → (u : Tables) → new.doubt u →
      doubt_behind writes (old.doubt u)
