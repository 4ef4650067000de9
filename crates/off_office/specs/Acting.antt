-- What one event does to an office and its tables.
use Rattle.std.specs.Prelude.{◌≡◌, ℕ, Bool, true, false, List, []}
use Rattle.off_base.specs.declared.addresses.Peer.{Peer}
use Rattle.off_defs.specs.declared.events.Event.{Event}
use Rattle.off_defs.specs.declared.events.Service.TheVariants.{Dhcp, Time, Tftp}
use Rattle.off_defs.specs.declared.events.What.{What}
use Rattle.off_defs.specs.declared.events.What.TheVariants.{Datagram, Piece, Closed, Tick, End}
use Rattle.off_defs.specs.declared.writes.Write.{Write}
use Rattle.off_defs.specs.declared.results.Outcome.{Outcome}
use Rattle.off_defs.specs.declared.results.Outcome.TheVariants.{Did, Memory, Keeper}
use Rattle.off_defs.specs.declared.results.Sent.{Sent}
use Rattle.off_defs.specs.Told.{Told}
use Rattle.off_defs.specs.Counts.{Tallied, commits_after}
use Rattle.off_defs.specs.State.{Tables, State, Said, Effect, state_of, held_at}
use Rattle.off_account_rules.specs.Good.{IsLeastBad}
use Rattle.off_defs.specs.Tables.{doubt_behind}
use Rattle.off_book.specs.Step.{Step, Does, TellsOutcome, completed}
use Rattle.off_book.specs.Http.{without_connection}
use Rattle.off_book.specs.Crashes.{Begins, doubt_in, unless_memory}
use Rattle.off_outside.specs.KeeperSeen.{KeeperSeen}
use Rattle.off_outside.specs.KeeperCalls.{Reads, NotCommitted, StaysUp, Unasked, Crash, IsWritten, waits_after}
use Rattle.off_outside.specs.declared.keeper.KeepErr.{KeepErr}
use Rattle.off_outside.specs.declared.keeper.KeepErr.TheVariants as keep
use Rattle.off_kept.specs.Entries.{Entries, without_written}
use Rattle.off_transfer_rules.specs.Requests.{datagram_at}
use Rattle.off_tftp.specs.Keeping.{kept_after}
use Rattle.off_office.specs.Desk.{Desk}
use Rattle.off_office.specs.Opening.{IsMigrated}
use Rattle.off_office.specs.Conditions.{Mirrors, Under, StaysFit, StaysAs}
use Rattle.off_office.specs.Asking.{Asks, AsksFew}
use Rattle.off_office.specs.declared.office.StartErr.{StartErr}
use Rattle.off_office.specs.declared.office.StartErr.TheVariants.{Bad, Failed, Memory as NoMemory}

-- Why an office didn't start: the tables don't open, and this is their least bad key; or the keeper
-- failed; or memory was wanted. They are as they were. Where the keeper failed, the migration may
-- have been begun.
abbrev pub NotStarted : StartErr → KeeperSeen → KeeperSeen → Type 0
NotStarted (Bad key) old new = Reads (λ tables. IsLeastBad tables key) old new
NotStarted Failed old new = NotCommitted IsMigrated keep.Failed old new
NotStarted NoMemory old new = NotCommitted IsMigrated keep.Memory old new

abbrev pub start_err : KeepErr → StartErr
start_err keep.Failed = Failed
start_err keep.Memory = NoMemory

-- an office that has come to a moment
abbrev pub desk_at : Desk → ℕ → Desk
desk_at desk at = record desk { held = held_at desk.held at }

-- what an office keeps without a connection
abbrev pub forgets : Desk → ℕ → Desk
forgets desk conn = record desk { held = without_connection desk.held conn }

-- an office that couldn't act on an event is as before, but that it forgets the connection of a
-- piece
abbrev pub desk_undone : What → Desk → Desk
desk_undone (Datagram service from bytes) desk = desk
desk_undone (Piece conn piece) desk = forgets desk conn
desk_undone (Closed conn) desk = desk
desk_undone Tick desk = desk
desk_undone End desk = desk

-- an event that wasn't acted on commits nothing, and leaves the office so
abbrev pub IsUndone : Outcome → What → List Write → Desk → Desk → Type 0
IsUndone Did what commit before after = Unit {0}
IsUndone Memory what commit before after = (commit ≡ []) × (after ≡ desk_undone what before)
IsUndone Keeper what commit before after = (commit ≡ []) × (after ≡ desk_undone what before)

-- the effect of an event on the book's state: where it couldn't be acted on, the caller adds what
-- is answered
abbrev pub effect_of : What → Outcome → Said → List Write → State → Effect
effect_of what outcome said commit after =
    record { said = completed what outcome said; commit = commit; after = after }

-- the step of the book, over tables before and after
abbrev pub StepOn : Event → Outcome → Said → List Write → Desk → Desk → Tables → Tables → Type 0
StepOn event outcome said commit before after t u =
    Step (state_of t before.held) event outcome
    (effect_of event.what outcome said commit (state_of u after.held))

-- a keeper counted as many faults as the outcome says: one at least where it failed, else none
abbrev pub CountsFaults : Outcome → ℕ → ℕ → Type 0
CountsFaults Did old new = new ≡ old
CountsFaults Memory old new = Tallied 0 old new
CountsFaults Keeper old new = Tallied 1 old new

-- of an event that wasn't acted on nothing is left to be sent
abbrev pub LeavesNothing : Outcome → List Sent → Type 0
LeavesNothing Did items = Unit {0}
LeavesNothing Memory items = items ≡ []
LeavesNothing Keeper items = items ≡ []

-- what the keeper may have begun by an outcome: the writes that were done, or, where it failed,
-- what would have been
abbrev pub begun_in : Outcome → (Tables → Tables → Type 0) → (Tables → Tables → Type 0) → Tables
    → Tables → Type 0
begun_in Did done begun t u = done t u
begun_in Memory done begun t u = ⊥
begun_in Keeper done begun t u = begun t u

-- and what it leaves in doubt
abbrev pub LeavesDoubt : Outcome → List Write → (Tables → Tables → Type 0) → KeeperSeen → KeeperSeen
    → Type 0
LeavesDoubt outcome commit begun old new =
    (t : Tables) → old.tables t → (u : Tables) → new.doubt u
    → doubt_behind commit (doubt_in outcome (old.doubt u) (begun t u))

-- the tables that an event would leave, over those before it
abbrev pub EventBegins : Event → Desk → Tables → Tables → Type 0
EventBegins event before t u = Mirrors before t → Begins (state_of t before.held) event u

-- and those that it may have begun: none where memory was wanted
abbrev pub EventBegan : Event → Outcome → Desk → Tables → Tables → Type 0
EventBegan event outcome before t u = unless_memory outcome (EventBegins event before t u)

-- Events that touch no tables, whatever these are: datagrams to the time port, ends of connections,
-- ticks, the end
abbrev pub is_quiet : What → Bool
is_quiet (Datagram Time from bytes) = true
is_quiet (Datagram Dhcp from bytes) = false
is_quiet (Datagram Tftp from bytes) = false
is_quiet (Piece conn piece) = false
is_quiet (Closed conn) = true
is_quiet Tick = true
is_quiet End = true

-- what an event does by the book at the office's moment, over tables before and after
abbrev pub DoesOn : What → Outcome → Said → List Write → Desk → Desk → Tables → Tables → Type 0
DoesOn what outcome said commit before after t u =
    Does (state_of t before.held) what outcome
    (effect_of what outcome said commit (state_of u after.held))

-- the tables that it would leave
abbrev pub DoingBegins : What → Desk → Tables → Tables → Type 0
DoingBegins what before t u =
    Mirrors before t
    → (effect : Effect)
    × (Does (state_of t before.held) what Did effect × (u ≡ effect.after.tables))

-- What is kept of bodies behind an event: a read request that is accepted puts its modem's first,
-- and what is written is forgotten.
abbrev pub kept_by_packet : Outcome → Peer → List ℕ → Desk → Tables → Entries
kept_by_packet Did from bytes before t =
    kept_after t before.held.transfers (datagram_at before.held.now from bytes) before.kept
kept_by_packet Memory from bytes before t = before.kept
kept_by_packet Keeper from bytes before t = before.kept

abbrev pub kept_behind : What → Outcome → List Write → Desk → Tables → Entries
kept_behind (Datagram Tftp from bytes) outcome commit before t =
    kept_by_packet outcome from bytes before t
kept_behind (Datagram Dhcp from bytes) outcome commit before t = without_written commit before.kept
kept_behind (Datagram Time from bytes) outcome commit before t = before.kept
kept_behind (Piece conn piece) outcome commit before t = without_written commit before.kept
kept_behind (Closed conn) outcome commit before t = before.kept
kept_behind Tick outcome commit before t = before.kept
kept_behind End outcome commit before t = before.kept

abbrev pub KeepsBodies : What → Outcome → List Write → Desk → Desk → Tables → Type 0
KeepsBodies what outcome commit before after t =
    Mirrors before t → after.kept ≡ kept_behind what outcome commit before t

-- it does so whatever the tables, also where none are told, and the keeper isn't asked
pub record HandledQuietly (what : What) (outcome : Outcome) (said : Said) (before after : Desk)
    (old new : KeeperSeen) : Type 0 where
  pub does : (t : Tables) → DoesOn what outcome said [] before after t t
  pub same : StaysAs before after
  pub keeper : Unasked old new

-- What an office makes of an event whose moment is its own already, whatever service it is for.
-- `commit` is what it wrote to the tables, in one commit, which the keeper has counted.
pub record Handled (what : What) (outcome : Outcome) (said : Said) (before after : Desk)
    (old new : KeeperSeen) : Type 0 where
  pub commit : List Write
  pub tables :
      Told old.tables new.tables (Under before after (DoesOn what outcome said commit before after))
  pub written : Told old.tables new.tables (IsWritten commit)
  pub keeps : Told old.tables new.tables (λ t u. KeepsBodies what outcome commit before after t)
  pub up : StaysUp old new
  pub faults : CountsFaults outcome old.faults new.faults
  pub commits : new.commits ≡ commits_after commit old.commits
  pub waits : new.waits ≡ waits_after commit old.waits
  pub asks : Asks what before.held old new
  pub few : AsksFew what before after old new
  pub crash : Crash (begun_in outcome (IsWritten commit) (DoingBegins what before)) old new
  pub doubts : LeavesDoubt outcome commit (DoingBegins what before) old new
  pub tells : TellsOutcome what outcome said.line
  pub undone : IsUndone outcome what commit before after
  pub leaves : LeavesNothing outcome said.items
  pub quiet : is_quiet what ≡ true → HandledQuietly what outcome said before after old new
  pub moment : after.held.now ≡ before.held.now

-- Quiet events are steps of the book whatever the tables, also where none are told, and the keeper
-- isn't asked.
pub record ActsQuietly (event : Event) (outcome : Outcome) (said : Said) (before after : Desk)
    (old new : KeeperSeen) : Type 0 where
  pub step : (t : Tables) → StepOn event outcome said [] before after t t
  pub same : StaysAs before after
  pub keeper : Unasked old new

-- One event. `commit` is what it wrote to the tables, in one commit, which the keeper has counted, and
-- which has saved what waited, if there was any.
-- Where the office mirrored the tables, it's the step of the book, and it keeps of the bodies what
-- `kept_behind` says; where they were good, they stay so, and the office mirrors them again. A
-- crash meanwhile leaves the tables before it, the commit in doubt, or what the event would leave,
-- unless memory was wanted.
-- What of it is said of tables that are told has no say in `undone` and `tells`, which hold over
-- any keeper.
pub record Acts (event : Event) (outcome : Outcome) (said : Said) (before after : Desk)
    (old new : KeeperSeen) : Type 0 where
  pub commit : List Write
  pub tables : Told old.tables new.tables
      (Under before after (StepOn event outcome said commit before after))
  pub written : Told old.tables new.tables (IsWritten commit)
  pub keeps : Told old.tables new.tables (λ t u.
      KeepsBodies event.what outcome commit (desk_at before event.at.0) after t)
  pub fits : Told old.tables new.tables (StaysFit before after)
  pub up : StaysUp old new
  pub faults : CountsFaults outcome old.faults new.faults
  pub commits : new.commits ≡ commits_after commit old.commits
  pub waits : new.waits ≡ waits_after commit old.waits
  pub asks : Asks event.what before.held old new
  pub few : AsksFew event.what (desk_at before event.at.0) after old new
  pub crash : Crash (EventBegan event outcome before) old new
  pub doubts : LeavesDoubt outcome commit (EventBegins event before) old new
  pub tells : TellsOutcome event.what outcome said.line
  pub undone : IsUndone outcome event.what commit (desk_at before event.at.0) after
  pub leaves : LeavesNothing outcome said.items
  pub quiet : is_quiet event.what ≡ true → ActsQuietly event outcome said before after old new
  pub moment : after.held.now ≡ (held_at before.held event.at.0).now
