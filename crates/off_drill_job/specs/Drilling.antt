-- What `drill` promises. The order is: the tables are opened, they have no rows, the office is
-- founded, and its modems boot one after another.
use Rattle.std.specs.Prelude.{◌≡◌, ◌≢◌, ℕ, ◌⊎◌, Bool, true, false, List, [], ◌∷◌, ◌++◌}
use Rattle.std.specs.FinMap as map
use Rattle.off_defs.specs.Counts.{Tallied}
use Rattle.off_defs.specs.Told.{Told}
use Rattle.off_defs.specs.State.{Tables, State}
use Rattle.off_account_rules.specs.Good.{Opens, Good}
use Rattle.off_book.specs.Run.{Turn}
use Rattle.off_outside.specs.declared.keeper.KeepErr.{KeepErr}
use Rattle.off_outside.specs.KeeperSeen.{KeeperSeen}
use Rattle.off_outside.specs.KeeperCalls.{Reads, StaysUp, keeper_faults_in}
use Rattle.off_outside.specs.LinkSeen.{LinkSeen}
use Rattle.off_outside.specs.LinkCalls.{LinkUnasked}
use Rattle.off_outside.specs.Streams.{SinkSeen}
use Rattle.off_jobs.specs.Health.{of_keeper, of_sink, NoFault}
use Rattle.off_jobs.specs.Ending.{JobEnds}
use Rattle.off_office.specs.Acting.{NotStarted}
use Rattle.off_office.specs.Closed.{SameOrGood}
use Rattle.off_office.specs.Opening.{OpensTo}
use Rattle.off_office.specs.Conditions.{Fits}
use Rattle.off_office.specs.Desk.{Desk}
use Rattle.off_drill_rules.specs.declared.tally.Tally.{Tally}
use Rattle.off_drill_rules.specs.Rows.{drill_tables}
use Rattle.off_drill_rules.specs.Law.{AllDid, WholeDrill, FrontDrill}
use Rattle.off_drill_rules.specs.Numbers.{none_yet, tally_by, drill_tally}
use Rattle.off_office.specs.Given.{Given}
use Rattle.off_drill_job.specs.Stepping.{commands_of, KeeperDid, KeeperDrilled}
use Rattle.off_drill_parts.specs.Commands.{founding}
use Rattle.off_drill_job.specs.Founding.{AllGiven, GaveFront}
use Rattle.off_drill_job.specs.Exercising.{SentTurns, TriedOne}
use Rattle.off_drill_parts.specs.Tallying.{raised_by}
use Rattle.off_drill_job.specs.Telling.{drill_end}
use Rattle.off_drill_job.specs.declared.drilling.Ended.{Ended}
use Rattle.off_drill_job.specs.declared.drilling.Ended.TheVariants.{Closed, NotEmpty, Broken, Done}

-- whether the tables have rows
abbrev pub FindsRows : Bool → KeeperSeen → KeeperSeen → Type 0
FindsRows true old new = Reads (λ t. t ≢ map.empty) old new
FindsRows false old new = Reads (λ t. t ≡ map.empty) old new

-- the turns are a whole drill, whose tables and numbers these are
pub record LeavesDrill (n : ℕ) (turns : List Turn) (tally : Tally) (u : Tables) : Type 0 where
  pub last : State
  pub whole : WholeDrill n turns last
  pub tables : u ≡ drill_tables n n
  pub numbers : tally ≡ drill_tally n

-- All commands were done, in order.
pub record GaveAll (n : ℕ) (given : List Given) : Type 0 where
  pub did : AllGiven given
  pub are : commands_of given ≡ founding n

-- How far a drill came that was broken off: `given` were done, and where these are all, `turns`
-- were acted on. Behind them at most one command, or one event, wasn't.
pub record CameSoFar (n : ℕ) (given lost : List Given) (turns tried : List Turn) : Type 0 where
  pub gave : GaveFront (founding n) given lost
  pub did : AllDid turns
  pub one : TriedOne tried
  pub order : (turns ++ tried ≡ []) ⊎ ((lost ≡ []) × GaveAll n given)

-- It came to its end: over tables that are told, these had no rows, and are now the tables of the
-- drill. What its turns said was sent, in order, but for what is counted as lost; and the tally
-- counts what they said, whatever the tables. The keeper has made one commit for each command and
-- each turn that wrote anything, and none else. It asks the keeper as often as it takes to open the
-- tables, once more, and as each command and each event asks; there is no bound of that over any
-- keeper, since a pool that is put, and an address that is asked for, are looked for among the
-- rows.
pub record CameToEnd (n : ℕ) (tally : Tally) (old new : KeeperSeen) (link link' : LinkSeen) :
    Type 0 where
  pub given : List Given
  pub gave : GaveAll n given
  pub turns : List Turn
  pub did : AllDid turns
  pub tables : Told old.tables new.tables
      (λ t u. (t ≡ map.empty) × (Good u × LeavesDrill n turns tally u))
  pub up : StaysUp old new
  pub faults : new.faults ≡ old.faults
  pub keeper : KeeperDrilled given turns old new
  pub sent : SentTurns turns link link'
  pub counts : tally ≡ raised_by none_yet (tally_by turns)

-- It didn't: the tables opened, they are good, and its turns are those with which the drill begins.
pub record BrokeOff (err : KeepErr) (n : ℕ) (old new : KeeperSeen) (link link' : LinkSeen) :
    Type 0 where
  pub opens : (t : Tables) → old.tables t → Opens t
  pub given : List Given
  pub lost : List Given
  pub turns : List Turn
  pub tried : List Turn
  pub came : CameSoFar n given lost turns tried
  pub tables : Told old.tables new.tables (λ t u. Good u × FrontDrill n turns)
  pub up : StaysUp old new
  pub faults : Tallied (keeper_faults_in err) old.faults new.faults
  pub keeper : KeeperDrilled (given ++ lost) (turns ++ tried) old new
  pub sent : SentTurns turns link link'

-- What became of the tables and of the link. Nothing is sent where the tables don't open, which are
-- as before then, or have rows, which are as the opening left them.
abbrev pub Ends : Ended → ℕ → KeeperSeen → KeeperSeen → LinkSeen → LinkSeen → Type 0
Ends (Closed err) n old new link link' = NotStarted err old new × LinkUnasked link link'
Ends NotEmpty n old new link link' =
    OpensTo (λ u. Good u × (u ≢ map.empty)) old new × LinkUnasked link link'
Ends (Broken err) n old new link link' = BrokeOff err n old new link link'
Ends (Done tally) n old new link link' = CameToEnd n tally old new link link'

-- the same of an office that has opened the tables, as far as they fit it and have no rows
pub record DoneBy (n : ℕ) (tally : Tally) (before : Desk) (old new : KeeperSeen)
    (link link' : LinkSeen) : Type 0 where
  pub after : Desk
  pub given : List Given
  pub gave : GaveAll n given
  pub turns : List Turn
  pub did : AllDid turns
  pub tables : Told old.tables new.tables (λ t u.
      Fits before t → t ≡ map.empty → Good u × LeavesDrill n turns tally u)
  pub up : StaysUp old new
  pub faults : new.faults ≡ old.faults
  pub keeper : KeeperDid given turns before after old new
  pub sent : SentTurns turns link link'
  pub counts : tally ≡ raised_by none_yet (tally_by turns)

pub record BrokenBy (err : KeepErr) (n : ℕ) (before : Desk) (old new : KeeperSeen)
    (link link' : LinkSeen) : Type 0 where
  pub after : Desk
  pub given : List Given
  pub lost : List Given
  pub turns : List Turn
  pub tried : List Turn
  pub came : CameSoFar n given lost turns tried
  pub tables : Told old.tables new.tables (λ t u.
      Fits before t → Good u × (t ≡ map.empty → FrontDrill n turns))
  pub up : StaysUp old new
  pub faults : Tallied (keeper_faults_in err) old.faults new.faults
  pub keeper : KeeperDid (given ++ lost) (turns ++ tried) before after old new
  pub sent : SentTurns turns link link'

abbrev pub GoesOn : Ended → ℕ → Desk → KeeperSeen → KeeperSeen → LinkSeen → LinkSeen → Type 0
GoesOn (Closed err) n before old new link link' = ⊥
GoesOn NotEmpty n before old new link link' = ⊥
GoesOn (Broken err) n before old new link link' = BrokenBy err n before old new link link'
GoesOn (Done tally) n before old new link link' = DoneBy n tally before old new link link'

-- What `drill` did. Whatever the status, the tables are as before or good. Where the sink failed
-- the status is 4, and a front of the text is there; else the text was written. Where no count rose
-- and no memory was wanted, the status is 0, or 2, where the tables don't open, or 9, where they
-- have rows; over tables without rows it is 0. A send that fails is passed over, so the link isn't
-- among what it needs.
pub record Drills (n : ℕ) (status : ℕ) (old new : KeeperSeen) (link link' : LinkSeen)
    (sink sink' : SinkSeen) : Type 0 where
  pub ends : JobEnds (λ ended. Ends ended n old new link link') (drill_end n) (0 ∷ 2 ∷ 6 ∷ 9 ∷ [])
      (of_keeper old new ∷ of_sink sink sink' ∷ []) status sink sink'
  pub good : Told old.tables new.tables SameOrGood
  pub complete : old.tables map.empty → NoFault (of_keeper old new ∷ of_sink sink sink' ∷ [])
      → status ≢ 6 → status ≡ 0
