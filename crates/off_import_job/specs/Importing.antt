-- What `import` promises. The order is: the tables are opened, the source is read to its end, its
-- bytes are read as an import, and the office does it in one step at moment 0.
use Rattle.std.specs.Prelude.{◌≡◌, ◌≢◌, ℕ, ◌≤◌, ◌⊎◌, List, [], ◌∷◌, length, Ok}
use Rattle.off_defs.specs.Counts.{Tallied, commits_after}
use Rattle.off_defs.specs.Told.{Told}
use Rattle.off_defs.specs.State.{Tables}
use Rattle.off_defs.specs.Tables.{write_all, doubt_behind}
use Rattle.off_defs.specs.declared.tables.ImportKind.{ImportKind}
use Rattle.off_orders.specs.declared.orders.Command.{Command}
use Rattle.off_orders.specs.declared.orders.Reply.{Reply}
use Rattle.off_orders.specs.declared.orders.Reply.TheVariants.{Rows}
use Rattle.off_defs.specs.declared.writes.Write.{Write}
use Rattle.off_account_rules.specs.Good.{Opens, Good}
use Rattle.off_account_rules.specs.Migration.{migration, migrated}
use Rattle.off_orders.specs.Clerk.{clerk_step, step_done, step_refused}
use Rattle.off_import_rules.specs.Reading.{import_in, GivesFault}
use Rattle.off_import_rules.specs.declared.faults.ImportErr.{ImportErr}
use Rattle.off_accounts.specs.declared.results.AccountErr.{AccountErr}
use Rattle.off_accounts.specs.declared.results.AccountErr.TheVariants as account_err
use Rattle.off_outside.specs.KeeperSeen.{KeeperSeen}
use Rattle.off_outside.specs.KeeperCalls.{IsWritten, Crash, StaysUp, keeper_faults_in, begun_by}
use Rattle.off_outside.specs.Streams.{SourceSeen, SourceUnasked, SinkSeen}
use Rattle.off_outside.specs.declared.keeper.KeepErr.{KeepErr}
use Rattle.off_outside.specs.declared.keeper.KeepErr.TheVariants as keep
use Rattle.off_jobs.specs.Input.{TookAll, NoInput}
use Rattle.off_jobs.specs.Health.{of_keeper, NoFault}
use Rattle.off_jobs.specs.Ending.{JobEnds}
use Rattle.off_jobs.specs.Jobs.{streams}
use Rattle.off_office.specs.Acting.{NotStarted}
use Rattle.off_office.specs.Opening.{IsMigrated, OpensTo}
use Rattle.off_office.specs.Answering.{Commanded, NotCommanded, CountsRows}
use Rattle.off_office.specs.Desk.{Desk}
use Rattle.off_office.specs.Closed.{Would, SameOrGood}
use Rattle.off_import_job.specs.Telling.{import_end}
use Rattle.off_import_job.specs.declared.importing.Ended.{Ended}
use Rattle.off_import_job.specs.declared.importing.Ended.TheVariants.{Closed, Unread, NoImport, NotDone, Done}

-- how many bytes an import has at most
abbrev pub most_import_bytes : ℕ
most_import_bytes = 1048576

-- all bytes of the source were taken, and they are this command
pub record ReadAs (kind : ImportKind) (batch : ℕ) (command : Command) (old new : SourceSeen) :
    Type 0 where
  pub bytes : List ℕ
  pub took : TookAll most_import_bytes bytes old new
  pub means : import_in kind batch bytes ≡ Ok command

-- or this is their first fault, or memory was wanted to read them
pub record ReadAsNone (err : ImportErr) (kind : ImportKind) (batch : ℕ) (old new : SourceSeen) :
    Type 0 where
  pub bytes : List ℕ
  pub took : TookAll most_import_bytes bytes old new
  pub why : GivesFault (import_in kind batch bytes) err

-- no import was taken from the source
abbrev pub NotTaken : Ended → ImportKind → ℕ → SourceSeen → SourceSeen → Type 0
NotTaken (Closed err) kind batch old new = ⊥
NotTaken (Unread err) kind batch old new = NoInput most_import_bytes err old new
NotTaken (NoImport err) kind batch old new = ReadAsNone err kind batch old new
NotTaken (NotDone err) kind batch old new = ⊥
NotTaken (Done rows) kind batch old new = ⊥

-- an office did a command at moment 0, and answered with so many rows where it's an import
pub record DidCommand (rows : ℕ) (command : Command) (before : Desk) (old new : KeeperSeen) :
    Type 0 where
  pub reply : Reply
  pub after : Desk
  pub done : Commanded command reply 0 before after old new
  pub counts : CountsRows command reply
  pub rows_are : (n : ℕ) → reply ≡ Rows n → rows ≡ n

-- what became of a command that an office was given
abbrev pub CarriesOut : Ended → Command → Desk → KeeperSeen → KeeperSeen → Type 0
CarriesOut (Closed err) command before old new = ⊥
CarriesOut (Unread err) command before old new = ⊥
CarriesOut (NoImport err) command before old new = ⊥
CarriesOut (NotDone err) command before old new = NotCommanded command err 0 before old new
CarriesOut (Done rows) command before old new = DidCommand rows command before old new

-- the tables opened, and behind that a command failed, or had no memory: they are as the opening
-- left them, but that the command may have been begun
pub record LostBehind (err : KeepErr) (command : Command) (old new : KeeperSeen) : Type 0 where
  pub opens : (t : Tables) → old.tables t → Opens t
  pub first : List Write
  pub are : (t : Tables) → old.tables t → first ≡ migration t
  pub tables : Told old.tables new.tables (λ t u. IsMigrated t u × Good u)
  pub up : StaysUp old new
  pub faults : Tallied (keeper_faults_in err) old.faults new.faults
  pub commits : new.commits ≡ commits_after first old.commits
  pub crash : Crash
      (λ t u. IsMigrated t u ⊎ begun_by err (Would 0 command) (migrated t) u) old new
  pub doubts : (t : Tables) → old.tables t → (u : Tables) → new.doubt u →
      doubt_behind first (old.doubt u) ⊎ begun_by err (Would 0 command) (migrated t) u

-- a command wasn't done: a rule of the book's refuses it over the opened tables, or the keeper
-- failed and counted it, or memory was wanted
abbrev pub LeftUndone : AccountErr → Command → KeeperSeen → KeeperSeen → Type 0
LeftUndone (account_err.Refused row broken) command old new =
    OpensTo (λ u. Good u × (clerk_step u 0 command ≡ step_refused u row broken)) old new
LeftUndone account_err.Failed command old new = LostBehind keep.Failed command old new
LeftUndone account_err.Memory command old new = LostBehind keep.Memory command old new

-- two lots of writes were done one after another, each in one commit where there are any
pub record SettledBoth (first writes : List Write) (old new : KeeperSeen) : Type 0 where
  pub tables : Told old.tables new.tables (λ t u. IsWritten writes (write_all t first) u)
  pub up : old.up → new.up
  pub faults : new.faults ≡ old.faults
  pub commits : new.commits ≡ commits_after writes (commits_after first old.commits)
  pub crash : Crash (λ t u. IsWritten first t u ⊎ IsWritten writes (write_all t first) u) old new
  pub doubts : (t : Tables) → old.tables t → (u : Tables) → new.doubt u →
      doubt_behind writes (doubt_behind first (old.doubt u))

-- the import was read, and wasn't done
pub record WasNotDone (err : AccountErr) (kind : ImportKind) (batch : ℕ) (old new : KeeperSeen)
    (source source' : SourceSeen) : Type 0 where
  pub command : Command
  pub read : ReadAs kind batch command source source'
  pub undone : LeftUndone err command old new

-- The import was read and done: over the opened tables the tables are those of the book's step of
-- this one command at moment 0, which answers with so many rows, and all its writes are committed.
pub record WasDone (rows : ℕ) (kind : ImportKind) (batch : ℕ) (old new : KeeperSeen)
    (source source' : SourceSeen) : Type 0 where
  pub command : Command
  pub read : ReadAs kind batch command source source'
  pub opens : (t : Tables) → old.tables t → Opens t
  pub first : List Write
  pub are : (t : Tables) → old.tables t → first ≡ migration t
  pub writes : List Write
  pub tables : Told old.tables new.tables
      (λ t u. (clerk_step (migrated t) 0 command ≡ step_done (migrated t) writes (Rows rows))
      × IsWritten writes (migrated t) u)
  pub settled : SettledBoth first writes old new
  pub stays_good : Told old.tables new.tables (λ t u. Good u)

-- What became of the tables and of the source. Nothing is taken of the source where the tables
-- didn't open; and they are as the opening left them unless the import was done.
abbrev pub Ends : Ended → ImportKind → ℕ → KeeperSeen → KeeperSeen → SourceSeen → SourceSeen
    → Type 0
Ends (Closed err) kind batch old new source source' =
    NotStarted err old new × SourceUnasked source source'
Ends (Unread err) kind batch old new source source' =
    OpensTo Good old new × NoInput most_import_bytes err source source'
Ends (NoImport err) kind batch old new source source' =
    OpensTo Good old new × ReadAsNone err kind batch source source'
Ends (NotDone err) kind batch old new source source' =
    WasNotDone err kind batch old new source source'
Ends (Done rows) kind batch old new source source' =
    WasDone rows kind batch old new source source'

-- what the source and the tables tell is an import that the book does
pub record Doable (kind : ImportKind) (batch : ℕ) (keeper : KeeperSeen) (source : SourceSeen) :
    Type 0 where
  pub tables : Tables
  pub told : keeper.tables tables
  pub opens : Opens tables
  pub bytes : List ℕ
  pub held : source.left bytes
  pub short : length bytes ≤ most_import_bytes
  pub command : Command
  pub means : import_in kind batch bytes ≡ Ok command
  pub writes : List Write
  pub reply : Reply
  pub step : clerk_step (migrated tables) 0 command ≡ step_done (migrated tables) writes reply

-- What `import` did. Whatever the status, the tables are as before or good. Where the sink failed
-- the status is 4, and a front of the text is there; else the text was written. Where no count rose
-- and no memory was wanted, the status is 0, or 2, where the tables don't open, or 9, where the
-- import is refused; and what can be done is done.
pub record Imports (kind : ImportKind) (batch : ℕ) (status : ℕ) (old new : KeeperSeen)
    (source source' : SourceSeen) (sink sink' : SinkSeen) : Type 0 where
  pub ends : JobEnds (λ ended. Ends ended kind batch old new source source') import_end
      (0 ∷ 2 ∷ 6 ∷ 9 ∷ []) (of_keeper old new ∷ streams source source' sink sink') status sink sink'
  pub good : Told old.tables new.tables SameOrGood
  pub complete : Doable kind batch old source
      → NoFault (of_keeper old new ∷ streams source source' sink sink') → status ≢ 6 → status ≡ 0
