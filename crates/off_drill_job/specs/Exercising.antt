-- What the events of a drill do: to the office and its tables, to what was counted, and to the
-- link, by which all that the office says is sent.
use Rattle.std.specs.Prelude.{◌≡◌, ◌≢◌, ℕ, ◌<◌, ◌≤◌, ◌⊎◌, Bool, List, [], ◌∷◌, ◌++◌, length, All}
use Rattle.std.specs.Str.{bytes_eq}
use Rattle.off_defs.specs.declared.events.Event.{Event}
use Rattle.off_defs.specs.declared.results.Outcome.TheVariants.{Did}
use Rattle.off_defs.specs.Counts.{Grew, Tallied}
use Rattle.off_defs.specs.Told.{Told, Stays}
use Rattle.off_defs.specs.State.{State, state_of}
use Rattle.off_account_rules.specs.Good.{Good}
use Rattle.off_book.specs.Step.{Step}
use Rattle.off_book.specs.Run.{Turn, effect_of, sent_by, lost_by}
use Rattle.off_outside.specs.declared.keeper.KeepErr.{KeepErr}
use Rattle.off_outside.specs.KeeperSeen.{KeeperSeen}
use Rattle.off_outside.specs.KeeperCalls.{StaysUp, keeper_faults_in}
use Rattle.off_outside.specs.LinkSeen.{LinkSeen}
use Rattle.off_outside.specs.LinkCalls.{LinkUnasked}
use Rattle.off_office.specs.Conditions.{Fits}
use Rattle.off_office.specs.Desk.{Desk}
use Rattle.off_drill_rules.specs.declared.tally.Tally.{Tally}
use Rattle.off_drill_rules.specs.Law.{AllDid}
use Rattle.off_drill_rules.specs.Numbers.{tally_of, tally_by}
use Rattle.off_drill_laws.specs.Stages.{Stage, Waits, Stands, served, Along}
use Rattle.off_drill_job.specs.Stepping.{KeeperDid}
use Rattle.off_drill_parts.specs.Tallying.{raised_by}

-- what turns did to the link: no event was taken, and each item was sent or is counted
pub record SentTurns (turns : List Turn) (old new : LinkSeen) : Type 0 where
  pub left : Stays old.left new.left
  pub marks : All (λ turn. length turn.said.items ≡ length turn.went) turns
  pub sent : Told old.sent new.sent (λ before after. after ≡ before ++ sent_by turns)
  pub unsent : Tallied (lost_by turns) old.unsent new.unsent
  pub up : old.up → new.up ⊎ Grew 1 old.unsent new.unsent
  pub missed : new.missed ≡ old.missed
  pub longest : new.longest ≡ old.longest
  pub faults : new.faults ≡ old.faults

-- an event was acted on, and its line has these words or not
pub record TookTurn (event : Event) (words : List ℕ) (same : Bool) (before after : Desk)
    (old new : KeeperSeen) (link link' : LinkSeen) (tally tally' : Tally) : Type 0 where
  pub turn : Turn
  pub event_is : turn.event ≡ event
  pub did : turn.outcome ≡ Did
  pub says : same ≡ bytes_eq turn.said.line words
  pub tables : Told old.tables new.tables (λ t u.
      Fits before t → Fits after u
      × Step (state_of t before.held) event Did (effect_of turn (state_of u after.held)))
  pub up : old.up → new.up ⊎ Grew 1 old.faults new.faults
  pub faults : new.faults ≡ old.faults
  pub keeper : KeeperDid [] (turn ∷ []) before after old new
  pub sent : SentTurns (turn ∷ []) link link'
  pub counts : tally' ≡ raised_by tally (tally_of turn.said)

-- at most one event was tried, and wasn't acted on
pub record TriedOne (tried : List Turn) : Type 0 where
  pub few : length tried ≤ 1
  pub undone : All (λ turn. turn.outcome ≢ Did) tried

-- an event wasn't acted on, or none was there for want of memory; the tables are good still
pub record LostTurn (err : KeepErr) (before : Desk) (old new : KeeperSeen) : Type 0 where
  pub after : Desk
  pub tried : List Turn
  pub one : TriedOne tried
  pub tables : Told old.tables new.tables (λ t u. Fits before t → Good u)
  pub up : StaysUp old new
  pub faults : Tallied (keeper_faults_in err) old.faults new.faults
  pub keeper : KeeperDid [] tried before after old new

-- and nothing is sent
abbrev pub LosesTurn : KeepErr → Desk → KeeperSeen → KeeperSeen → LinkSeen → LinkSeen → Type 0
LosesTurn err before old new link link' = LostTurn err before old new × LinkUnasked link link'

-- Turns that lead from a stage to another one, where the office stands there: whatever the tables
-- are, each turn did, all that was said was sent or is counted as lost, and the tally counts it.
pub record Exercised (n : ℕ) (from to : Stage) (before after : Desk) (old new : KeeperSeen)
    (link link' : LinkSeen) (tally tally' : Tally) : Type 0 where
  pub turns : List Turn
  pub did : AllDid turns
  pub tables : Told old.tables new.tables (λ t u.
      Fits before t → Fits after u
      × (Stands n from (state_of t before.held)
      → Along n from to turns (state_of t before.held) (state_of u after.held)))
  pub up : StaysUp old new
  pub faults : new.faults ≡ old.faults
  pub keeper : KeeperDid [] turns before after old new
  pub sent : SentTurns turns link link'
  pub counts : tally' ≡ raised_by tally (tally_by turns)

-- turns that lead to some stage of a drill
pub record PartWay (n : ℕ) (from : Stage) (turns : List Turn) (s : State) : Type 0 where
  pub stage : Stage
  pub mid : State
  pub place : (served stage < n) ⊎ (stage ≡ Waits n)
  pub along : Along n from stage turns s mid

-- Turns like these, behind which an event couldn't be acted on; the tables are good.
pub record Stopped (err : KeepErr) (n : ℕ) (from : Stage) (before : Desk) (old new : KeeperSeen)
    (link link' : LinkSeen) : Type 0 where
  pub after : Desk
  pub turns : List Turn
  pub did : AllDid turns
  pub tried : List Turn
  pub one : TriedOne tried
  pub tables : Told old.tables new.tables (λ t u.
      Fits before t → Good u
      × (Stands n from (state_of t before.held) → PartWay n from turns (state_of t before.held)))
  pub up : StaysUp old new
  pub faults : Tallied (keeper_faults_in err) old.faults new.faults
  pub keeper : KeeperDid [] (turns ++ tried) before after old new
  pub sent : SentTurns turns link link'
