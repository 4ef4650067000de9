-- Laws of events and of runs.
use Rattle.std.specs.Prelude.{◌≡◌, ◌≤◌, max, ℕ, Bool, true, false, IsTrue, List, [], ◌++◌, ◌+◌, length, All, codes, ◌↔◌, count_by, Some, None}
use Rattle.std.specs.List.{list_any}
use Rattle.std.specs.FinMap as map
use Rattle.off_base.specs.declared.addresses.Peer.{Peer}
use Rattle.off_defs.specs.declared.events.Event.{Event}
use Rattle.off_defs.specs.declared.events.Service.TheVariants.{Dhcp}
use Rattle.off_defs.specs.declared.events.What.{What}
use Rattle.off_defs.specs.declared.events.What.TheVariants.{Datagram as Came, Piece, Closed, Tick, End}
use Rattle.off_defs.specs.declared.results.Outcome.{Outcome}
use Rattle.off_defs.specs.declared.results.Outcome.TheVariants.{Did, Memory, Keeper}
use Rattle.off_defs.specs.declared.results.Sent.{Sent}
use Rattle.off_defs.specs.declared.results.Sent.TheVariants.{Datagram, Answer, Close}
use Rattle.off_defs.specs.State.{Tables, State, Effect, start, at_moment}
use Rattle.off_defs.specs.Tables.{write_all}
use Rattle.off_account_rules.specs.Good.{Good}
use Rattle.off_query_rules.specs.Asked.{query_of}
use Rattle.off_book.specs.Http.{most_connections, heard_of}
use Rattle.off_book.specs.Step.{Step, service_word}
use Rattle.off_book.specs.Run.{Turn, Run, tables_after, moment_after, commits_by}
use Rattle.off_laws.specs.Parts.{part_of, Changes}

-- an event with an outcome gives one thing
abbrev pub OneResult : Type 0
OneResult =
    (s : State) (event : Event) (outcome : Outcome) (one other : Effect) → Step s event outcome one
    → Step s event outcome other → one ≡ other

-- And it gives something: for each state and each event there is an effect with which the office
-- acts on it. Whether the bytes of a connection are a request's head is known by reading them, so
-- the law is told of the bytes that have come with the event.
abbrev pub Brings : State → What → List ℕ → Type 0
Brings s (Came service from bytes) heard = Unit {0}
Brings s (Piece conn piece) heard = heard ≡ heard_of s.held conn ++ piece
Brings s (Closed conn) heard = Unit {0}
Brings s Tick heard = Unit {0}
Brings s End heard = Unit {0}

abbrev pub SomeResult : List ℕ → Type 0
SomeResult heard =
    (s : State) (event : Event) → Brings s event.what heard
    → (effect : Effect) × Step s event Did effect

-- a run has one end
abbrev pub OneEnd : Type 0
OneEnd =
    (s one other : State) (turns : List Turn) → Run s turns one → Run s turns other → one ≡ other

-- the line says `memory` exactly where memory was wanted, and `keeper` exactly where the keeper of
-- the tables failed
abbrev pub LineTellsOutcome : Type 0
LineTellsOutcome =
    (s : State) (event : Event) (outcome : Outcome) (effect : Effect) → Step s event outcome effect
    → ((effect.said.line ≡ service_word event.what ++ codes " memory") ↔ (outcome ≡ Memory))
    × ((effect.said.line ≡ service_word event.what ++ codes " keeper") ↔ (outcome ≡ Keeper))

-- the moment after an event is the greatest so far
abbrev pub MomentIsGreatest : Type 0
MomentIsGreatest =
    (s : State) (event : Event) (outcome : Outcome) (effect : Effect) → Step s event outcome effect
    → effect.after.held.now ≡ max s.held.now event.at.0

-- the moment never falls over a run
abbrev pub MomentNeverFalls : Type 0
MomentNeverFalls =
    (s last : State) (turns : List Turn) → Run s turns last → s.held.now ≤ last.held.now

-- a run that begins with good tables ends with good tables
abbrev pub RunKeepsGood : Type 0
RunKeepsGood =
    (s last : State) (turns : List Turn) → Run s turns last → Good s.tables → Good last.tables

-- What an event makes of the tables is what it commits, and nothing else.
abbrev pub TablesByCommit : Type 0
TablesByCommit =
    (s : State) (event : Event) (outcome : Outcome) (effect : Effect) → Step s event outcome effect
    → effect.after.tables ≡ write_all s.tables effect.commit

-- So the tables and the moment at the end of a run are told by its turns.
abbrev pub RunTells : Type 0
RunTells =
    (s last : State) (turns : List Turn) → Run s turns last
    → (last.tables ≡ tables_after s.tables turns) × (last.held.now ≡ moment_after s.held.now turns)

-- A turn makes one commit at most: the commits of a run are no more than its turns, and none where
-- no turn has anything to write.
abbrev pub OneCommit : Type 0
OneCommit =
    (turns : List Turn) (commits : ℕ)
    → (commits_by turns commits ≤ commits + length turns)
    × (All (λ turn. turn.commit ≡ []) turns → commits_by turns commits ≡ commits)

-- An event changes no more than its part of the state. So ticks and the ends of connections leave
-- the tables, and so do pieces that are waited behind, refused, or couldn't be acted on, and
-- datagrams but those of clients whose word is one of those that act.
abbrev pub ChangesItsPart : Type 0
ChangesItsPart =
    (s : State) (event : Event) (outcome : Outcome) (effect : Effect) → Step s event outcome effect
    → Changes (part_of event.what outcome) (at_moment s event.at.0) effect

-- A relay's query changes nothing of the office: its turn commits nothing, and leaves all as it
-- was.
abbrev pub QueriesChangeNothing : Type 0
QueriesChangeNothing =
    (s : State) (event : Event) (outcome : Outcome) (effect : Effect) (from : Peer)
    (bytes query : List ℕ) → Step s event outcome effect
    → event.what ≡ Came Dhcp from bytes → query_of bytes ≡ Some query
    → (effect.commit ≡ []) × (effect.after ≡ at_moment s event.at.0)

-- an answer; and what ends a connection, an answer or a close
abbrev pub is_answer : Sent → Bool
is_answer (Datagram service to bytes) = false
is_answer (Answer conn bytes) = true
is_answer (Close conn) = false

abbrev pub ends_connection : Sent → Bool
ends_connection (Datagram service to bytes) = false
ends_connection (Answer conn bytes) = true
ends_connection (Close conn) = true

-- a piece is answered once at most, and once it is answered, or its connection closed, that
-- connection isn't live any more
abbrev pub AnsweredOnce : Type 0
AnsweredOnce =
    (s : State) (event : Event) (outcome : Outcome) (effect : Effect) (conn : ℕ) (piece : List ℕ)
    → Step s event outcome effect
    → event.what ≡ Piece conn piece
    → (count_by is_answer effect.said.items ≤ 1)
    × (IsTrue (list_any ends_connection effect.said.items)
    → map.get effect.after.held.connections conn ≡ None)

-- Few connections are live at the end of a run from the start, so after each turn: the turns up to
-- it are a run too.
abbrev pub FewAreLive : Type 0
FewAreLive =
    (tables : Tables) (last : State) (turns : List Turn) → Run (start tables) turns last
    → map.len last.held.connections ≤ most_connections
