-- What is in doubt after a step, by its outcome and by what it wrote.
use Rattle.std.proofs.Common.{◌≡◌, ◌⊎◌, Bool, true, false}
use mathlib.Core.Logic.{⊎_map}
use Rattle.off_defs.specs.declared.results.Outcome.{Outcome}
use Rattle.off_defs.specs.declared.results.Outcome.TheVariants.{Did, Memory, Keeper}
use Rattle.off_defs.specs.State.{Tables, State}
use Rattle.off_defs.specs.Tables.{doubt_behind}
use Rattle.off_defs.proofs.TableLemmas.{doubt_more}
use Rattle.off_book.specs.Crashes.{unless_memory, doubt_in, Steps}

-- what an event may have begun, where more may
pub unless_more : (outcome : Outcome) {begun more : Type 0} → (begun → more) → unless_memory outcome begun → unless_memory outcome more
unless_more Did wider begun = wider begun
unless_more Memory wider begun = begun
unless_more Keeper wider begun = wider begun

-- what may be in doubt, and may have been begun, where more may
pub in_more : (outcome : Outcome) {old new begun more : Type 0} → (new → old) → (begun → more) → doubt_in outcome new begun → doubt_in outcome old more
in_more Did before more doubt = before doubt
in_more Memory before more doubt = before doubt
in_more Keeper before more doubt = ⊎_map before more doubt

-- what is in doubt after a step, `doubt` being so before it
abbrev pub Doubt : {X : Type 0} → Steps X → (Tables → Type 0) → State → X → Tables → Type 0
Doubt steps doubt s step u = doubt_behind (steps.commit step) (doubt_in (steps.outcome step) (doubt u) (steps.begins s step u))

-- the same by what the step would leave
pub doubts_by : {X : Type 0} (steps : Steps X) (doubt : Tables → Type 0) (s : State) (step : X) (u : Tables) {p : Type 0} → (p → steps.begins s step u)
    → doubt_behind (steps.commit step) (doubt_in (steps.outcome step) (doubt u) p) → Doubt steps doubt s step u
doubts_by steps doubt s step u more is = doubt_more (steps.commit step) (in_more (steps.outcome step) (λ doubt. doubt) more) is

-- and where writes wait: the tables before it too
abbrev pub InDoubt : {X : Type 0} → Steps X → Bool → (Tables → Type 0) → State → X → Tables → Type 0
InDoubt steps true before mid step u = before u ⊎ ((u ≡ mid.tables) ⊎ unless_memory (steps.outcome step) (steps.begins mid step u))
InDoubt steps false before mid step u = Doubt steps before mid step u
