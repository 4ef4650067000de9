-- The loop over the events: what its turns did to the link, to the keeper and to the sink, and why
-- it stopped.
use Rattle.std.specs.Prelude.{◌≡◌, ℕ, ◌+◌, ◌-◌, ◌*◌, ◌<◌, ◌≤◌, true, false, List, [], ◌∷◌, ◌++◌, length, drop, max, All, ◌⊎◌}
use Rattle.off_defs.specs.Told.{Told}
use Rattle.off_defs.specs.Counts.{Grew, Tallied, commits_after}
use Rattle.off_defs.specs.declared.writes.Write.{Write}
use Rattle.off_defs.specs.State.{Tables, State, state_of}
use Rattle.off_book.specs.Run.{Turn, TellsItsOutcome, failures_by, commits_by, writes_by, sent_by, moments_by, lost_by, lines_from, line_of, events_of, first_events, is_end, IsNoEnd, EndsLast}
use Rattle.off_book.specs.Crashes.{turn_steps, Saves, SafeWhenSent}
use Rattle.off_outside.specs.LinkSeen.{LinkSeen}
use Rattle.off_outside.specs.KeeperSeen.{KeeperSeen}
use Rattle.off_outside.specs.KeeperCalls.{StaysUp}
use Rattle.off_outside.specs.LinkCalls.{LinkStaysUp}
use Rattle.off_outside.specs.Streams.{SinkSeen, SinkStaysUp, HasFront}
use Rattle.off_office.specs.Desk.{Desk}
use Rattle.off_office.specs.Conditions.{WhereFit, StaysFit}
use Rattle.off_turns.specs.Serving.{World, most_missed}
use Rattle.off_turns.specs.declared.events.Stop.{Stop}
use Rattle.off_turns.specs.declared.events.Stop.TheVariants as stop

-- the whole text was written
pub record WroteText (text : List ℕ) (old new : SinkSeen) : Type 0 where
  pub written : Told old.written new.written (λ before after. after ≡ before ++ text)
  pub up : old.up → new.up
  pub faults : new.faults ≡ old.faults

-- the text up to its last line was written, and a front of that line; the sink counted a fault
pub record CutText (text last : List ℕ) (old new : SinkSeen) : Type 0 where
  pub written : Told old.written new.written (λ before after. HasFront last (before ++ text) after)
  pub up : SinkStaysUp old new
  pub faults : Grew 1 old.faults new.faults

-- What the turns did to the link, each at a moment of the keeper, in order.
pub record RanTurns (turns : List Turn) (moments : List ℕ) (old new : LinkSeen) : Type 0 where
  -- the events are the first of those to come, with one End behind the last
  pub left : Told old.left new.left
      (λ before after. (events_of turns ≡ first_events (length turns) before)
      × (after ≡ drop (length turns) before))
  -- each item of a turn was sent or is counted
  pub marks : All (λ turn. length turn.said.items ≡ length turn.went) turns
  pub sent : Told old.sent new.sent (λ before after. after ≡ before ++ sent_by turns)
  -- and was sent at the moment of its turn
  pub moments_of : length moments ≡ length turns
  pub moments_are : Told old.moments new.moments
      (λ before after. after ≡ before ++ moments_by turns moments)
  pub unsent : Tallied (lost_by turns) old.unsent new.unsent
  pub up : LinkStaysUp old new

-- each failed call of `next` is counted: fewer than sixteen in a row before each of the turns, and
-- so many more behind them
pub record CountsMissed (turns : List Turn) (more : ℕ) (old new : LinkSeen) : Type 0 where
  pub failures : ℕ
  pub few : failures ≤ 15 * length turns
  pub rows : new.longest ≤ max old.longest (max 15 more)
  pub faults : Tallied (failures + more) old.faults new.faults

-- The turns are a run, and by what the keeper tells of crashes so many of them are safe at each
-- moment; what each turn that was acted on says was sent when the turn was.
pub record SavesIn (old new : KeeperSeen) (s : State) (turns : List Turn) (moments : List ℕ)
    (last : State) : Type 0 where
  pub saves : Saves turn_steps old.doubt old.moment s turns new.opened new.doubt false new.moment
      last
  pub sent : SafeWhenSent saves.safe 0 turns moments

-- What the turns did to the keeper, behind these first writes: each in which it failed is counted,
-- and where it failed in none the count stands; each that wrote anything made one commit, and so did
-- the first writes, if any; and it stays up, or has counted a fault.
pub record KeeperRan (first : List Write) (turns : List Turn) (old new : KeeperSeen) : Type 0 where
  pub faults : Tallied (failures_by turns) old.faults new.faults
  pub commits : new.commits ≡ commits_by turns (commits_after first old.commits)
  pub up : StaysUp old new

-- The turns are a run of the office from a state on, where the office fitted the tables; and then it
-- fits them still. `moments` are those of the keeper at which each turn's items were sent.
pub record RanFrom (turns : List Turn) (moments : List ℕ) (first last : Desk)
    (old new : KeeperSeen) : Type 0 where
  pub run : Told old.tables new.tables
      (WhereFit first last (λ t u. SavesIn old new (state_of t first.held) turns moments
      (state_of u last.held)))
  pub past : (m : ℕ) (u : Tables) → m ≤ old.moment → new.opened m u → old.opened m u
  pub later : old.moment ≤ new.moment
  pub fits : Told old.tables new.tables (StaysFit first last)
  pub keeper : KeeperRan [] turns old new
  pub tell : All TellsItsOutcome turns

-- `serve` has taken these turns, none an End, and goes on
pub record SoFar (turns : List Turn) (first last : Desk) (old new : World) : Type 0 where
  pub moments : List ℕ
  pub ran : RanTurns turns moments old.link new.link
  pub office : RanFrom turns moments first last old.keeper new.keeper
  pub no_end : All IsNoEnd turns
  pub missed : new.link.missed ≡ 0
  pub faults : CountsMissed turns 0 old.link new.link
  pub text : WroteText (lines_from 1 turns) old.sink new.sink
  pub writes : new.sink.calls ≡ writes_by turns old.sink.calls

-- all turns that the words allow were taken, none an End
abbrev pub AllTaken : ℕ → List Turn → Type 0
AllTaken budget turns = (length turns ≡ budget) × All IsNoEnd turns

-- there is a last turn, and it's an End
abbrev pub LastIsEnd : List Turn → Type 0
LastIsEnd turns =
    (0 < length turns) × All (λ turn. is_end turn.event.what ≡ true) (drop (length turns - 1) turns)

-- `serve` came to its end: all turns taken, or the last an End
pub record Finished (budget : ℕ) (turns : List Turn) (old new : World) : Type 0 where
  pub cause : AllTaken budget turns ⊎ LastIsEnd turns
  pub missed : new.link.missed ≡ 0
  pub faults : CountsMissed turns 0 old.link new.link
  pub text : WroteText (lines_from 1 turns) old.sink new.sink

-- memory was wanted for the next event, behind fewer than sixteen failures, each counted
pub record LackedMemory (budget : ℕ) (turns : List Turn) (old new : LinkSeen) : Type 0 where
  pub more : length turns < budget
  pub no_end : All IsNoEnd turns
  pub missed : new.missed < most_missed
  pub failures : ℕ
  pub few : failures ≤ 15 * length turns
  pub rows : new.longest ≤ max old.longest 15
  pub faults : Grew (failures + new.missed) old.faults new.faults

-- the link failed sixteen times in a row, and counted each
pub record LostLink (budget : ℕ) (turns : List Turn) (old new : LinkSeen) : Type 0 where
  pub more : length turns < budget
  pub no_end : All IsNoEnd turns
  pub missed : new.missed ≡ most_missed
  pub faults : CountsMissed turns most_missed old new

-- the sink failed at the line of the last turn
pub record SinkRefused (turns : List Turn) (old new : World) : Type 0 where
  pub front : List Turn
  pub last : Turn
  pub parts : turns ≡ front ++ last ∷ []
  pub missed : new.link.missed ≡ 0
  pub faults : CountsMissed turns 0 old.link new.link
  pub text : CutText (lines_from 1 front) (line_of (length front + 1) last) old.sink new.sink

-- why the loop over the events stopped
abbrev pub Stops : Stop → ℕ → List Turn → World → World → Type 0
Stops stop.Finished budget turns old new = Finished budget turns old new
Stops stop.Memory budget turns old new =
    LackedMemory budget turns old.link new.link × WroteText (lines_from 1 turns) old.sink new.sink
Stops stop.Link budget turns old new =
    LostLink budget turns old.link new.link × WroteText (lines_from 1 turns) old.sink new.sink
Stops stop.Sink budget turns old new = SinkRefused turns old new

-- the loop over the events
pub record Served (reason : Stop) (budget : ℕ) (first last : Desk) (old new : World) : Type 0 where
  pub turns : List Turn
  pub within : length turns ≤ budget
  pub ends_last : EndsLast turns
  pub moments : List ℕ
  pub ran : RanTurns turns moments old.link new.link
  pub office : RanFrom turns moments first last old.keeper new.keeper
  pub stops : Stops reason budget turns old new
  -- nothing was written but the lines of the turns
  pub writes : new.sink.calls ≡ writes_by turns old.sink.calls
