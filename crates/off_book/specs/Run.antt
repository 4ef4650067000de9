-- A run of the office: a list of turns, each an event with its outcome, what was said and which of
-- the things to send went out. The states between the turns aren't in the list; Run says that there
-- are some.
use Rattle.std.specs.Prelude.{◌≡◌, ℕ, ◌+◌, ◌-◌, Bool, true, false, cond, not, List, [], ◌∷◌, ◌++◌, length, take, map, All, ◌==◌, decimal, codes, count_by, max}
use Rattle.off_defs.specs.declared.events.Event.{Event}
use Rattle.off_defs.specs.declared.events.What.{What}
use Rattle.off_defs.specs.declared.events.What.TheVariants.{Datagram, Piece, Closed, Tick, End}
use Rattle.off_defs.specs.declared.results.Outcome.{Outcome}
use Rattle.off_defs.specs.declared.results.Outcome.TheVariants.{Did, Memory, Keeper}
use Rattle.off_defs.specs.declared.results.Sent.{Sent}
use Rattle.off_defs.specs.Events.{end_event}
use Rattle.off_defs.specs.declared.writes.Write.{Write}
use Rattle.off_defs.specs.State.{Tables, State, Said, Effect}
use Rattle.off_defs.specs.Tables.{write_all}
use Rattle.off_defs.specs.Counts.{commits_after, calls_after}
use Rattle.off_book.specs.Step.{Step, TellsOutcome, service_word}

-- One turn. `commit` is what was written to the tables, in one commit, and `went` tells of each
-- item whether it was sent.
pub record Turn : Type 0 where
  pub event : Event
  pub outcome : Outcome
  pub said : Said
  pub commit : List Write
  pub went : List Bool

-- what a turn does, with the state that it leaves
abbrev pub effect_of : Turn → State → Effect
effect_of turn after = record { said = turn.said; commit = turn.commit; after = after }

-- Step along the turns, each from the state that the one before it left
abbrev pub Run : State → List Turn → State → Type 0
Run s [] last = last ≡ s
Run s (turn ∷ turns) last =
    (after : State) × (Step s turn.event turn.outcome (effect_of turn after) × Run after turns last)

-- The tables at a place of a run are those of its beginning, with what each turn so far has
-- committed; the moment there is the greatest so far.
abbrev pub tables_after : Tables → List Turn → Tables
tables_after tables [] = tables
tables_after tables (turn ∷ turns) = tables_after (write_all tables turn.commit) turns

abbrev pub moment_after : ℕ → List Turn → ℕ
moment_after now [] = now
moment_after now (turn ∷ turns) = moment_after (max now turn.event.at.0) turns

-- a counter of commits behind the turns: each makes one commit at most
abbrev pub commits_by : List Turn → ℕ → ℕ
commits_by [] commits = commits
commits_by (turn ∷ turns) commits = commits_by turns (commits_after turn.commit commits)

-- the items that are marked as sent
abbrev pub marked : List Sent → List Bool → List Sent
marked [] marks = []
marked (item ∷ items) [] = []
marked (item ∷ items) (true ∷ marks) = item ∷ marked items marks
marked (item ∷ items) (false ∷ marks) = marked items marks

-- what a turn sent, and how many of its items were lost
abbrev pub sent_in : Turn → List Sent
sent_in turn = marked turn.said.items turn.went

abbrev pub lost_in : Turn → ℕ
lost_in turn = count_by not turn.went

-- what the turns sent, in order, and how many items they lost
abbrev pub sent_by : List Turn → List Sent
sent_by [] = []
sent_by (turn ∷ turns) = sent_in turn ++ sent_by turns

-- a moment once for each of some items; and so of what turns sent, each turn at a moment of its own
abbrev pub moment_of_each : ℕ → List Sent → List ℕ
moment_of_each moment items = map (λ _. moment) items

abbrev pub moments_by : List Turn → List ℕ → List ℕ
moments_by [] moments = []
moments_by (turn ∷ turns) [] = []
moments_by (turn ∷ turns) (moment ∷ moments) =
    moment_of_each moment (sent_in turn) ++ moments_by turns moments

abbrev pub lost_by : List Turn → ℕ
lost_by [] = 0
lost_by (turn ∷ turns) = lost_in turn + lost_by turns

-- the line of a turn says that memory was wanted, and it says so where it was
abbrev pub SaysMemory : Turn → Type 0
SaysMemory turn = turn.said.line ≡ service_word turn.event.what ++ codes " memory"

abbrev pub TellsItsOutcome : Turn → Type 0
TellsItsOutcome turn = TellsOutcome turn.event.what turn.outcome turn.said.line

-- how many of the turns the keeper of the tables failed in
abbrev pub keeper_failures : Outcome → ℕ
keeper_failures Did = 0
keeper_failures Memory = 0
keeper_failures Keeper = 1

abbrev pub failures_by : List Turn → ℕ
failures_by [] = 0
failures_by (turn ∷ turns) = keeper_failures turn.outcome + failures_by turns

-- and in how many an event wasn't acted on
abbrev pub trouble : Outcome → ℕ
trouble Did = 0
trouble Memory = 1
trouble Keeper = 1

abbrev pub troubles_by : List Turn → ℕ
troubles_by [] = 0
troubles_by (turn ∷ turns) = trouble turn.outcome + troubles_by turns

abbrev pub all_went : List Bool → Bool
all_went [] = true
all_went (mark ∷ marks) = cond mark (all_went marks) false

-- The line of the log for event number n, which says `words`: the number, a space, the service and
-- its words, a line feed. `link` stands in place of any other word where an item was lost. What
-- says nothing has no line.
abbrev pub line_text : ℕ → What → List ℕ → Bool → List ℕ
line_text n what words all =
    cond (length words == 0) []
    (decimal n ++ (32 ∷ cond all words (service_word what ++ codes " link") ++ 10 ∷ []))

abbrev pub line_of : ℕ → Turn → List ℕ
line_of n turn = line_text n turn.event.what turn.said.line (all_went turn.went)

-- the lines of turns that are numbered from n. Each turn counts, also one without a line.
abbrev pub lines_from : ℕ → List Turn → List ℕ
lines_from n [] = []
lines_from n (turn ∷ turns) = line_of n turn ++ lines_from (n + 1) turns

-- a counter of writes behind the turns: each has one line at most
abbrev pub writes_by : List Turn → ℕ → ℕ
writes_by [] calls = calls
writes_by (turn ∷ turns) calls = writes_by turns (calls_after turn.said.line calls)

abbrev pub is_end : What → Bool
is_end (Datagram service from bytes) = false
is_end (Piece conn bytes) = false
is_end (Closed conn) = false
is_end Tick = false
is_end End = true

-- the first k of the events to come, with one End behind the last
abbrev pub first_events : ℕ → List Event → List Event
first_events k events = take k (events ++ end_event ∷ [])

abbrev pub events_of : List Turn → List Event
events_of [] = []
events_of (turn ∷ turns) = turn.event ∷ events_of turns

-- No turn but the last takes an End.
abbrev pub IsNoEnd : Turn → Type 0
IsNoEnd turn = is_end turn.event.what ≡ false

abbrev pub EndsLast : List Turn → Type 0
EndsLast turns = All IsNoEnd (take (length turns - 1) turns)
