-- What a clerk is told, and what comes of a piece of a clerk's connection.
use Rattle.std.specs.Prelude.{◌≡◌, ℕ, List, [], codes, Result, Err, MatchResult}
use Rattle.off_http.specs.Request.{Meaning}
use Rattle.off_http.specs.Heard.{asked_method, asked_target, asked_body}
use Rattle.off_orders.specs.declared.orders.Command.{Command}
use Rattle.off_orders.specs.declared.orders.Command.TheVariants.{PutHub, PutSubscriber, PutAddOn, PutModem, PutClass, PutPool, PutDevicePool, Remove, Show, Import}
use Rattle.off_defs.specs.declared.writes.Write.{Write}
use Rattle.off_orders.specs.declared.orders.Reply.{Reply}
use Rattle.off_orders.specs.declared.orders.Reply.TheVariants.{Rows}
use Rattle.off_defs.specs.declared.results.Outcome.TheVariants as end
use Rattle.off_defs.specs.declared.events.What.TheVariants.{Piece}
use Rattle.off_defs.specs.Told.{Told}
use Rattle.off_defs.specs.State.{Tables, Said, state_of}
use Rattle.off_defs.specs.Tables.{write_all}
use Rattle.off_account_rules.specs.Rows.{counts_of}
use Rattle.off_orders.specs.Clerk.{clerk_step, step_done, step_refused}
use Rattle.off_clerk_rules.specs.declared.faults.Fault.TheVariants as fault
use Rattle.off_book.specs.Http.{Answered, answer_step, answer_request, with_connection, PieceDid}
use Rattle.off_outside.specs.declared.keeper.KeepErr.{KeepErr}
use Rattle.off_outside.specs.declared.keeper.KeepErr.TheVariants as keep
use Rattle.off_outside.specs.KeeperSeen.{KeeperSeen}
use Rattle.off_outside.specs.KeeperCalls.{Reads, NotDone, IsWritten, Settled, NotCommitted}
use Rattle.off_accounts.specs.declared.results.Planned.{Planned}
use Rattle.off_accounts.specs.declared.results.AccountErr.{AccountErr}
use Rattle.off_accounts.specs.declared.results.AccountErr.TheVariants.{Refused, Failed, Memory}
use Rattle.off_kept.specs.Entries.{without_written}
use Rattle.off_sessions.specs.Answers.{said_to, fault_said, reply_said, failed_said, IsSaid}
use Rattle.off_office.specs.Desk.{Desk}
use Rattle.off_office.specs.Conditions.{Mirrors, Under, Follows, any_tables}
use Rattle.off_office.specs.Acting.{forgets, DoingBegins}
use Rattle.off_book.specs.Step.{TellsOutcome}

-- an import that is done is answered with a number of rows
abbrev pub CountsRows : Command → Reply → Type 0
CountsRows (Import kind batch digest rows) answer = (n : ℕ) × (answer ≡ Rows n)
CountsRows (PutHub n site) answer = Unit {0}
CountsRows (PutSubscriber n subscriber) answer = Unit {0}
CountsRows (PutAddOn n number settings) answer = Unit {0}
CountsRows (PutModem mac modem) answer = Unit {0}
CountsRows (PutClass n class) answer = Unit {0}
CountsRows (PutPool n pool hub) answer = Unit {0}
CountsRows (PutDevicePool n pool) answer = Unit {0}
CountsRows (Remove key) answer = Unit {0}
CountsRows (Show key) answer = Unit {0}

-- What a command was planned to do: where the office mirrors the tables, it's the step of the book,
-- and its counts are those of the tables behind its writes.
pub record IsPlanned (desk : Desk) (command : Command) (planned : Planned) (t : Tables) : Type 0
  where
    pub holds : Mirrors desk t
        → (clerk_step t desk.held.now command ≡ step_done t planned.writes planned.reply)
        × (planned.counts ≡ counts_of (write_all t planned.writes))

-- it isn't to be done: a rule of the book's refuses it, or the keeper failed, or memory was wanted
abbrev pub NotPlanned : Desk → Command → AccountErr → KeeperSeen → KeeperSeen → Type 0
NotPlanned desk command (Refused row rule) old new =
    Reads (λ t. Mirrors desk t → clerk_step t desk.held.now command ≡ step_refused t row rule) old
    new
NotPlanned desk command Failed old new = NotDone keep.Failed old new
NotPlanned desk command Memory old new = NotDone keep.Memory old new

-- the tables that a command would leave at a moment
abbrev pub CommandBegins : Command → ℕ → Desk → Tables → Tables → Type 0
CommandBegins command now before t u =
    Mirrors before t → u ≡ write_all t (clerk_step t now command).writes

-- A command was done at a moment: its writes are committed, and where the counts were those of the
-- tables, it's the step of the book.
pub record Commanded (command : Command) (done : Reply) (now : ℕ) (before after : Desk)
    (old new : KeeperSeen) : Type 0 where
  pub writes : List Write
  pub tables : Told old.tables new.tables
      (Under before after (λ t u. (clerk_step t now command ≡ step_done t writes done)
      × IsWritten writes t u))
  pub kept : after.kept ≡ without_written writes before.kept
  pub settled : Settled writes old new

-- it wasn't, and the tables are as before
abbrev pub NotCommanded : Command → AccountErr → ℕ → Desk → KeeperSeen → KeeperSeen → Type 0
NotCommanded command (Refused row rule) now before old new =
    Reads (λ t. Mirrors before t → clerk_step t now command ≡ step_refused t row rule) old new
NotCommanded command Failed now before old new =
    NotCommitted (CommandBegins command now before) keep.Failed old new
NotCommanded command Memory now before old new =
    NotCommitted (CommandBegins command now before) keep.Memory old new

-- A request was answered: where the counts were those of the tables, it's the answer of the book,
-- as is what is written.
pub record AnsweredBy (answer : Tables → Answered) (conn : ℕ) (said : Said)
    (before after : Desk) (old new : KeeperSeen) : Type 0 where
  pub writes : List Write
  pub tables : Told old.tables new.tables (Under before after (λ t u.
      (said ≡ said_to conn (answer t)) × (writes ≡ (answer t).writes) × IsWritten writes t u))
  pub held : after.held ≡ before.held
  pub kept : after.kept ≡ without_written writes before.kept
  pub settled : Settled writes old new
  -- the line tells that it was done, whatever the tables
  pub tells : TellsOutcome (Piece conn []) end.Did said.line

-- the tables that a request would leave
abbrev pub AnswerBegins : (Tables → Answered) → Desk → Tables → Tables → Type 0
AnswerBegins answer before t u = Mirrors before t → u ≡ write_all t (answer t).writes

-- it wasn't, and all is as before
pub record NotAnswered (answer : Tables → Answered) (err : KeepErr) (before after : Desk)
    (old new : KeeperSeen) : Type 0 where
  pub same : after ≡ before
  pub keeper : NotCommitted (AnswerBegins answer before) err old new

-- the answer to a request that was read from a connection
abbrev pub answer_asked : ℕ → Meaning → Tables → Answered
answer_asked now asked tables =
    answer_request tables now (asked_method asked) (asked_target asked) (asked_body asked)

-- the answer to a command at a moment
abbrev pub answer_to : ℕ → Command → Tables → Answered
answer_to now command tables = answer_step (clerk_step tables now command)

-- what comes of a request
abbrev pub IsAnswered : Result (Unit {0}) KeepErr → (Tables → Answered) → ℕ → Said → Desk → Desk
    → KeeperSeen → KeeperSeen → Type 0
IsAnswered result answer conn said before after old new =
    MatchResult result (λ _. AnsweredBy answer conn said before after old new)
    (λ err. NotAnswered answer err before after old new)

-- what was planned was answered and done
pub record CarriedOut (planned : Planned) (conn : ℕ) (said : Said) (before after : Desk)
    (old new : KeeperSeen) : Type 0 where
  pub answer : said ≡ reply_said conn planned.reply
  pub follows : Follows any_tables before after planned.counts planned.writes
  pub done : Settled planned.writes old new

-- it wasn't
pub record NotCarriedOut (planned : Planned) (err : KeepErr) (before after : Desk)
    (old new : KeeperSeen) : Type 0 where
  pub same : after ≡ before
  pub keeper : NotCommitted (IsWritten planned.writes) err old new

-- what a piece does by the book, over tables before and after
abbrev pub PieceOn : ℕ → List ℕ → Said → List Write → Desk → Desk → Tables → Tables → Type 0
PieceOn conn piece said commit before after t u =
    PieceDid (state_of t before.held) conn piece
    (record { said = said; commit = commit; after = state_of u after.held })

-- a piece was heard, and what it asks is done
pub record HeardPiece (conn : ℕ) (piece : List ℕ) (said : Said) (before after : Desk)
    (old new : KeeperSeen) : Type 0 where
  pub commit : List Write
  pub tables :
      Told old.tables new.tables (Under before after (PieceOn conn piece said commit before after))
  pub settled : Settled commit old new
  pub kept : after.kept ≡ without_written commit before.kept
  pub moment : after.held.now ≡ before.held.now
  pub tells : TellsOutcome (Piece conn piece) end.Did said.line

-- it couldn't be acted on: its connection is forgotten, and all else is as before
pub record NotHeard (err : KeepErr) (conn : ℕ) (piece : List ℕ) (before after : Desk)
    (old new : KeeperSeen) : Type 0 where
  pub forgotten : after ≡ forgets before conn
  pub keeper : NotCommitted (DoingBegins (Piece conn piece) before) err old new

-- a connection of which more must come was kept, or memory was wanted and nothing changed
abbrev pub WaitsFor : ℕ → List ℕ → Result (Unit {0}) KeepErr → Said → Desk → Desk → Type 0
WaitsFor conn bytes result said before after =
    MatchResult result
    (λ _. (said ≡ failed_said (codes "http wait"))
    × (after ≡ record before { held = with_connection before.held conn bytes }))
    (λ err. (err ≡ keep.Memory) × (after ≡ before))

-- why a command wasn't done is answered, or handed on
abbrev pub Refuses : ℕ → AccountErr → Result (Unit {0}) KeepErr → Said → Type 0
Refuses conn (Refused row rule) result said =
    IsSaid result said (fault_said conn (fault.Rule row rule))
Refuses conn Failed result said = result ≡ Err keep.Failed
Refuses conn Memory result said = result ≡ Err keep.Memory
