-- What an office does in a job: commands that it was given, all at one moment, and events; and what
-- a run of these is.
use Rattle.std.specs.Prelude.{◌≡◌, ℕ, List, [], ◌∷◌}
use Rattle.off_orders.specs.declared.orders.Command.{Command}
use Rattle.off_defs.specs.declared.writes.Write.{Write}
use Rattle.off_defs.specs.declared.results.Outcome.{Outcome}
use Rattle.off_defs.specs.declared.results.Outcome.TheVariants.{Did, Memory, Keeper}
use Rattle.off_defs.specs.State.{Tables, State, state_of, held_at}
use Rattle.off_defs.specs.Tables.{write_all}
use Rattle.off_orders.specs.Clerk.{clerk_step}
use Rattle.off_book.specs.Step.{Step}
use Rattle.off_book.specs.Run.{Turn, effect_of}
use Rattle.off_book.specs.Crashes.{Begins, Steps}
use Rattle.off_office.specs.Closed.{Would}

-- A command that the office was given, and what it wrote, in one commit. One that a rule refused is
-- done as well, and has written nothing.
pub record Given : Type 0 where
  pub command : Command
  pub outcome : Outcome
  pub commit : List Write

-- what is written of what the book's step of a command writes
abbrev pub written_in : Outcome → List Write → List Write
written_in Did writes = writes
written_in Memory writes = []
written_in Keeper writes = []

-- the state after a command that was given at a moment
abbrev pub after_command : ℕ → State → Given → State
after_command now s given = state_of (write_all s.tables given.commit) (held_at s.held now)

-- a step of a job: a command, or an event
pub data JobStep : Type 0 where
  CommandStep : Given → JobStep
  TurnStep : Turn → JobStep

abbrev pub step_outcome : JobStep → Outcome
step_outcome (CommandStep given) = given.outcome
step_outcome (TurnStep turn) = turn.outcome

abbrev pub step_commit : JobStep → List Write
step_commit (CommandStep given) = given.commit
step_commit (TurnStep turn) = turn.commit

-- the tables that it would leave where the office acts on it
abbrev pub step_begins : ℕ → State → JobStep → Tables → Type 0
step_begins now s (CommandStep given) u = Would now given.command s.tables u
step_begins now s (TurnStep turn) u = Begins s turn.event u

-- a run of them: a command writes what the book's step of it does, as far as it was done
abbrev pub JobRun : ℕ → State → List JobStep → State → Type 0
JobRun now s [] last = last ≡ s
JobRun now s (CommandStep given ∷ steps) last =
    (given.commit ≡ written_in given.outcome (clerk_step s.tables now given.command).writes)
    × JobRun now (after_command now s given) steps last
JobRun now s (TurnStep turn ∷ steps) last =
    (after : State) × (Step s turn.event turn.outcome (effect_of turn after)
    × JobRun now after steps last)

abbrev pub job_steps : ℕ → Steps JobStep
job_steps now = record {
  outcome = step_outcome;
  commit = step_commit;
  begins = step_begins now;
  run = JobRun now;
}
