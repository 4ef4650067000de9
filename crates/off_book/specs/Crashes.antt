-- What a crash may leave at each moment of a run. A keeper may tell, by a clock of its own, which
-- tables an opening after a crash at a moment may give (`opened`), and which a crash may leave
-- besides those that it tells (`doubt`): those of a commit that was begun and not answered as done,
-- or older ones, whose later writes wait.
use Rattle.std.specs.Prelude.{◌≡◌, ℕ, ◌+◌, ◌<◌, ◌-◌, ◌≤◌, ◌⊎◌, Bool, false, List, [], ◌∷◌, ◌++◌, length, take, All}
use Rattle.off_defs.specs.declared.events.Event.{Event}
use Rattle.off_defs.specs.declared.results.Outcome.{Outcome}
use Rattle.off_defs.specs.declared.results.Outcome.TheVariants.{Did, Memory, Keeper}
use Rattle.off_defs.specs.declared.writes.Write.{Write}
use Rattle.off_defs.specs.State.{Tables, State, Effect}
use Rattle.off_book.specs.Step.{Step}
use Rattle.off_book.specs.Run.{Turn, Run}

-- the tables that an event would leave where the office acts on it
abbrev pub Begins : State → Event → Tables → Type 0
Begins s event u = (effect : Effect) × (Step s event Did effect × (u ≡ effect.after.tables))

-- an event for which memory was wanted begins nothing
abbrev pub unless_memory : Outcome → Type 0 → Type 0
unless_memory Did begun = begun
unless_memory Memory begun = ⊥
unless_memory Keeper begun = begun

-- an event in which the keeper failed may have begun a commit, and so leaves it in doubt
abbrev pub doubt_in : Outcome → Type 0 → Type 0 → Type 0
doubt_in Did doubt begun = doubt
doubt_in Memory doubt begun = doubt
doubt_in Keeper doubt begun = doubt ⊎ begun

-- What is done to the tables in steps, one after another: turns, or commands. Of each step: how it
-- came out, what it wrote, in one commit, and the tables that it would leave where the office acts
-- on it. `run` says that several are a run from one state to another.
pub record Steps (X : Type 0) : Type 1 where
  pub outcome : X → Outcome
  pub commit : X → List Write
  pub begins : State → X → Tables → Type 0
  pub run : State → List X → State → Type 0

-- the turns of the office
abbrev pub turn_steps : Steps Turn
turn_steps = record {
  outcome = λ turn. turn.outcome;
  commit = λ turn. turn.commit;
  begins = λ s turn. Begins s turn.event;
  run = Run;
}

-- a step that wrote nothing
abbrev pub WroteNothing : {X : Type 0} → Steps X → X → Type 0
WroteNothing steps step = steps.commit step ≡ []

-- what the next step would leave, unless memory was wanted for it
abbrev pub NextBegins : {X : Type 0} → Steps X → State → List X → Tables → Type 0
NextBegins steps s [] u = ⊥
NextBegins steps s (step ∷ rest) u = unless_memory (steps.outcome step) (steps.begins s step u)

-- or, before the first step, what was in doubt when the run began
abbrev pub OneMore : {X : Type 0} → Steps X → (Tables → Type 0) → State → List X → List X
    → Tables → Type 0
OneMore steps first s [] rest u = NextBegins steps s rest u ⊎ first u
OneMore steps first s (step ∷ front) rest u = NextBegins steps s rest u

-- What a crash may leave while the first `safe` of the steps are safe, and at most `taken` were
-- taken: the tables after some of the first steps, perhaps with one commit more, that of the step
-- after them. Of the safe steps none that isn't among them wrote anything.
pub record LeftBy {X : Type 0} (steps : Steps X) (first : Tables → Type 0) (s : State)
    (done : List X) (safe taken : ℕ) (u : Tables) : Type 0 where
  pub front : List X
  pub rest : List X
  pub parts : front ++ rest ≡ done
  pub few : length front ≤ taken
  pub none_lost : All (WroteNothing steps) (take (safe - length front) rest)
  pub mid : State
  pub run : steps.run s front mid
  pub is : (u ≡ mid.tables) ⊎ OneMore steps first mid front rest u

-- A run of these steps from a state at the moment `from`, when `first` was in doubt, to a state at
-- the moment `to`, when `doubt` is. At a moment m the first `safe m` of the steps are safe, a number
-- that never falls, and at most `taken m` were taken. If no writes wait, all are safe.
pub record Saves {X : Type 0} (steps : Steps X) (first : Tables → Type 0) (from : ℕ) (s : State)
    (done : List X) (opened : ℕ → Tables → Type 0) (doubt : Tables → Type 0) (waits : Bool)
    (to : ℕ) (last : State) : Type 0 where
  pub run : steps.run s done last
  pub later : from ≤ to
  pub safe : ℕ → ℕ
  pub taken : ℕ → ℕ
  pub rises : (m n : ℕ) → m ≤ n → safe m ≤ safe n
  pub top : (m : ℕ) → safe m ≤ safe to
  pub most : safe to ≤ length done
  pub within : (m : ℕ) → taken m ≤ length done
  pub leaves : (m : ℕ) (u : Tables) → from ≤ m → m ≤ to → opened m u
      → LeftBy steps first s done (safe m) (taken m) u
  pub doubts : (u : Tables) → doubt u → LeftBy steps first s done (safe to) (length done) u
  pub all : waits ≡ false → safe to ≡ length done

-- What the turns sent was sent at these moments, one for each turn, `before` turns having been taken
-- before them: at that moment, and so ever after, the turn is safe, if the office acted on its
-- event. What is answered to an event that it couldn't act on acknowledges nothing.
abbrev pub SafeWhenSent : (ℕ → ℕ) → ℕ → List Turn → List ℕ → Type 0
SafeWhenSent safe before [] [] = Unit {0}
SafeWhenSent safe before [] (moment ∷ moments) = ⊥
SafeWhenSent safe before (turn ∷ turns) [] = ⊥
SafeWhenSent safe before (turn ∷ turns) (moment ∷ moments) =
    (turn.outcome ≡ Did → before < safe moment) × SafeWhenSent safe (before + 1) turns moments
