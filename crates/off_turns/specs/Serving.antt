-- What the parts of `serve` do to what is seen of the link and of the sink.
use Rattle.std.specs.Prelude.{◌≡◌, ℕ, ◌<◌, Bool, true, false, List, ◌++◌, length, drop, max, ◌⊎◌}
use Rattle.off_defs.specs.declared.events.Event.{Event}
use Rattle.off_defs.specs.Told.{Told, Stays}
use Rattle.off_defs.specs.Counts.{Grew, Tallied, commits_after, calls_after}
use Rattle.off_defs.specs.State.{Tables, state_of}
use Rattle.off_book.specs.Step.{Step}
use Rattle.off_book.specs.Run.{Turn, effect_of, TellsItsOutcome, moment_of_each, sent_in, lost_in, line_of, is_end}
use Rattle.off_outside.specs.LinkSeen.{LinkSeen}
use Rattle.off_outside.specs.KeeperSeen.{KeeperSeen}
use Rattle.off_outside.specs.KeeperCalls.{StaysUp, Unasked, Crash, waits_after}
use Rattle.off_office.specs.Desk.{Desk}
use Rattle.off_office.specs.Conditions.{Under, StaysFit}
use Rattle.off_office.specs.Asking.{Asks}
use Rattle.off_office.specs.Acting.{CountsFaults, EventBegins, EventBegan, LeavesDoubt}
use Rattle.off_outside.specs.LinkCalls.{LinkStaysUp, first_event}
use Rattle.off_outside.specs.Streams.{SinkSeen, SinkUnasked, NotWritten}
use Rattle.off_turns.specs.declared.taking.Taken.{Taken}
use Rattle.off_turns.specs.declared.taking.Taken.TheVariants as taken
use Rattle.off_turns.specs.declared.turning.Turned.{Turned}
use Rattle.off_turns.specs.declared.turning.Turned.TheVariants as turned

-- how many calls of `next` may fail in a row
abbrev pub most_missed : ℕ
most_missed = 16

-- `n` calls of `next` failed in a row, and there was no other call
pub record Missed (n : ℕ) (old new : LinkSeen) : Type 0 where
  pub left : Stays old.left new.left
  pub sent : Stays old.sent new.sent
  pub moments : Stays old.moments new.moments
  pub up : old.up → new.up ⊎ Grew 1 old.faults new.faults
  pub missed : new.missed ≡ n
  pub longest : new.longest ≡ max old.longest n
  pub faults : Tallied n old.faults new.faults
  pub unsent : new.unsent ≡ old.unsent

-- memory was wanted behind fewer than sixteen failures
pub record LacksMemory (old new : LinkSeen) : Type 0 where
  pub failures : ℕ
  pub few : failures < most_missed
  pub left : Stays old.left new.left
  pub sent : Stays old.sent new.sent
  pub moments : Stays old.moments new.moments
  pub up : old.up → new.up ⊎ Grew 1 old.faults new.faults
  pub missed : new.missed ≡ failures
  pub longest : new.longest ≡ max old.longest failures
  pub faults : Grew failures old.faults new.faults
  pub unsent : new.unsent ≡ old.unsent

-- an event was taken behind fewer than sixteen failures
pub record TookBehind (event : Event) (old new : LinkSeen) : Type 0 where
  pub failures : ℕ
  pub few : failures < most_missed
  pub left : Told old.left new.left
      (λ before after. (event ≡ first_event before) × (after ≡ drop 1 before))
  pub sent : Stays old.sent new.sent
  pub moments : Stays old.moments new.moments
  pub up : old.up → new.up ⊎ Grew 1 old.faults new.faults
  pub missed : new.missed ≡ 0
  pub longest : new.longest ≡ max old.longest failures
  pub faults : Tallied failures old.faults new.faults
  pub unsent : new.unsent ≡ old.unsent

-- what came of the tries to take an event
abbrev pub Tries : Taken → LinkSeen → LinkSeen → Type 0
Tries (taken.Took event) old new = TookBehind event old new
Tries taken.Memory old new = LacksMemory old new
Tries taken.Missed old new = Missed most_missed old new

-- what is seen of the outside while the office serves
pub record World : Type 1 where
  pub link : LinkSeen
  pub keeper : KeeperSeen
  pub sink : SinkSeen

abbrev pub world_of : LinkSeen → KeeperSeen → SinkSeen → World
world_of link keeper sink = record { link = link; keeper = keeper; sink = sink }

-- the step of the book that a turn is, over tables before and after
abbrev pub TurnOn : Turn → Desk → Desk → Tables → Tables → Type 0
TurnOn turn before after t u =
    Step (state_of t before.held) turn.event turn.outcome (effect_of turn (state_of u after.held))

-- What a turn makes of the office and its tables: where the office mirrored the tables, it's the
-- step of the book; where it fitted them, it fits them still; the keeper has counted what was
-- committed.
pub record OfficeTurn (turn : Turn) (before after : Desk) (old new : KeeperSeen) : Type 0 where
  pub tables : Told old.tables new.tables (Under before after (TurnOn turn before after))
  pub fits : Told old.tables new.tables (StaysFit before after)
  pub up : StaysUp old new
  pub faults : CountsFaults turn.outcome old.faults new.faults
  pub commits : new.commits ≡ commits_after turn.commit old.commits
  pub waits : new.waits ≡ waits_after turn.commit old.waits
  pub asks : Asks turn.event.what before.held old new
  pub crash : Crash (EventBegan turn.event turn.outcome before) old new
  pub doubts : LeavesDoubt turn.outcome turn.commit (EventBegins turn.event before) old new
  pub tells : TellsItsOutcome turn

-- the line of a turn was written, where it has one, and else nothing was
pub record LineWritten (words text : List ℕ) (old new : SinkSeen) : Type 0 where
  pub written : Told old.written new.written (λ before after. after ≡ before ++ text)
  pub up : old.up → new.up
  pub faults : new.faults ≡ old.faults
  pub calls : new.calls ≡ calls_after words old.calls

-- or it was cut off
pub record LineCut (words text : List ℕ) (old new : SinkSeen) : Type 0 where
  pub cut : NotWritten text old new
  pub calls : new.calls ≡ calls_after words old.calls

-- the office acted on an event that was taken, and what it said was sent or is counted: it was sent
-- at the moment at which the keeper was then
pub record Acted (event : Event) (turn : Turn) (before after : Desk) (old new : World) : Type 0
  where
    pub taken : turn.event ≡ event
    pub office : OfficeTurn turn before after old.keeper new.keeper
    pub marks : length turn.said.items ≡ length turn.went
    pub left : Stays old.link.left new.link.left
    pub sent : Told old.link.sent new.link.sent (λ before now. now ≡ before ++ sent_in turn)
    pub moments : Told old.link.moments new.link.moments
        (λ before now. now ≡ before ++ moment_of_each new.keeper.moment (sent_in turn))
    pub up : old.link.up → new.link.up ⊎ Grew 1 old.link.unsent new.link.unsent
    pub missed : new.link.missed ≡ old.link.missed
    pub longest : new.link.longest ≡ old.link.longest
    pub faults : new.link.faults ≡ old.link.faults
    pub unsent : Tallied (lost_in turn) old.link.unsent new.link.unsent

-- one turn, as far as the link and the office go: fewer than sixteen calls of `next` failed before
-- it, and each is counted
pub record TurnMade (turn : Turn) (before after : Desk) (old new : World) : Type 0 where
  pub left : Told old.link.left new.link.left
      (λ before rest. (turn.event ≡ first_event before) × (rest ≡ drop 1 before))
  pub office : OfficeTurn turn before after old.keeper new.keeper
  pub marks : length turn.said.items ≡ length turn.went
  pub sent : Told old.link.sent new.link.sent (λ before now. now ≡ before ++ sent_in turn)
  pub moments : Told old.link.moments new.link.moments
      (λ before now. now ≡ before ++ moment_of_each new.keeper.moment (sent_in turn))
  pub up : LinkStaysUp old.link new.link
  pub missed : new.link.missed ≡ 0
  pub failures : ℕ
  pub few : failures < most_missed
  pub longest : new.link.longest ≡ max old.link.longest failures
  pub faults : Tallied failures old.link.faults new.link.faults
  pub unsent : Tallied (lost_in turn) old.link.unsent new.link.unsent

-- an event was acted on, and its line written
pub record ActWritten (event : Event) (n : ℕ) (before after : Desk) (old new : World) : Type 0 where
  pub turn : Turn
  pub acted : Acted event turn before after old new
  pub wrote : LineWritten turn.said.line (line_of n turn) old.sink new.sink

-- an event was acted on, and its line cut off
pub record ActCut (event : Event) (n : ℕ) (before after : Desk) (old new : World) : Type 0 where
  pub turn : Turn
  pub acted : Acted event turn before after old new
  pub cut : LineCut turn.said.line (line_of n turn) old.sink new.sink

-- a turn was made, and its line written
pub record TurnWritten (is_last : Bool) (n : ℕ) (before after : Desk) (old new : World) : Type 0
  where
    pub turn : Turn
    pub made : TurnMade turn before after old new
    pub last : is_end turn.event.what ≡ is_last
    pub wrote : LineWritten turn.said.line (line_of n turn) old.sink new.sink

-- a turn was made, and its line cut off
pub record TurnCut (n : ℕ) (before after : Desk) (old new : World) : Type 0 where
  pub turn : Turn
  pub made : TurnMade turn before after old new
  pub cut : LineCut turn.said.line (line_of n turn) old.sink new.sink

-- no event came
pub record NoTurn (P : LinkSeen → LinkSeen → Type 0) (before after : Desk) (old new : World) :
    Type 0 where
  pub link : P old.link new.link
  pub same : after ≡ before
  pub keeper : Unasked old.keeper new.keeper
  pub sink : SinkUnasked old.sink new.sink

-- what came of one turn, number n
abbrev pub Turns : Turned → ℕ → Desk → Desk → World → World → Type 0
Turns turned.Went n before after old new = TurnWritten false n before after old new
Turns turned.Ended n before after old new = TurnWritten true n before after old new
Turns turned.Cut n before after old new = TurnCut n before after old new
Turns turned.Memory n before after old new = NoTurn LacksMemory before after old new
Turns turned.Missed n before after old new = NoTurn (Missed most_missed) before after old new
