-- The law of the drill: who gives an office with n modems all that they send, and has it act on
-- each event, leaves it with the tables of the drill, and has counted its numbers.
use Rattle.std.specs.Prelude.{◌≡◌, ℕ, ◌≤◌, List, ◌++◌, map, All}
use Rattle.std.specs.FinMap as fin
use Rattle.off_defs.specs.declared.results.Outcome.TheVariants.{Did}
use Rattle.off_defs.specs.State.{State, Held, Said, state_of}
use Rattle.off_book.specs.Run.{Turn, Run, events_of}
use Rattle.off_drill_rules.specs.Rows.{most_modems, moment, drill_tables}
use Rattle.off_drill_rules.specs.Events.{drill_events}
use Rattle.off_drill_rules.specs.Numbers.{tally_by, drill_tally}

-- what the office itself holds where k modems have been served: no file is on its way
abbrev pub held_behind : ℕ → Held
held_behind k = record { now = moment k; transfers = fin.empty; connections = fin.empty }

abbrev pub drill_state : ℕ → ℕ → State
drill_state n k = state_of (drill_tables n k) (held_behind k)

abbrev pub AllDid : List Turn → Type 0
AllDid turns = All (λ turn. turn.outcome ≡ Did) turns

-- the turns of a whole drill of n modems, from the state without leases to `last`
pub record WholeDrill (n : ℕ) (turns : List Turn) (last : State) : Type 0 where
  pub run : Run (drill_state n 0) turns last
  pub events : events_of turns ≡ drill_events n
  pub did : AllDid turns

abbrev pub DrillLaw : Type 0
DrillLaw =
    (n : ℕ) (turns : List Turn) (last : State) → n ≤ most_modems → WholeDrill n turns last
    → (last ≡ drill_state n n) × (tally_by turns ≡ drill_tally n)

-- there are such turns, and what they say is one thing: so one may speak of the items of a drill
abbrev pub DrillIsThere : Type 0
DrillIsThere =
    (n : ℕ) → n ≤ most_modems
    → (turns : List Turn) × ((last : State) × WholeDrill n turns last)

abbrev pub all_said : List Turn → List Said
all_said turns = map (λ turn. turn.said) turns

abbrev pub DrillSaysOneThing : Type 0
DrillSaysOneThing =
    (n : ℕ) (turns others : List Turn) (last end : State) → WholeDrill n turns last
    → WholeDrill n others end → all_said turns ≡ all_said others

-- turns with which a drill of n modems begins, whatever comes behind them
pub record FrontDrill (n : ℕ) (turns : List Turn) : Type 0 where
  pub more : List Turn
  pub last : State
  pub whole : WholeDrill n (turns ++ more) last
