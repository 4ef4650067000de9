-- What the line of an event says of its outcome.
use Rattle.std.proofs.Common.{◌≡◌, ℕ, List, [], ◌∷◌, ◌++◌, codes, All, refl, ap, arith}
use Rattle.std.proofs.lemmas.List.Elements.{All-nil, All-cons, All-head, All-tail}
use Rattle.off_defs.specs.declared.events.Service.TheVariants.{Dhcp, Time, Tftp}
use Rattle.off_defs.specs.declared.events.What.{What}
use Rattle.off_defs.specs.declared.events.What.TheVariants.{Datagram, Piece, Closed, Tick, End}
use Rattle.off_defs.specs.declared.events.Event.{Event}
use Rattle.off_defs.specs.declared.results.Outcome.{Outcome}
use Rattle.off_defs.specs.declared.results.Outcome.TheVariants.{Did, Memory, Keeper}
use Rattle.off_defs.specs.State.{State, Effect}
use Rattle.off_book.specs.Step.{Step, Does, TellsOutcome, service_word}
use Rattle.off_book.specs.Run.{Turn, SaysMemory, TellsItsOutcome, keeper_failures, failures_by}

-- want of memory is said
does_memory : (s : State) (what : What) (effect : Effect) → Does s what Memory effect → effect.said.line ≡ service_word what ++ codes " memory"
does_memory s (Datagram Dhcp from bytes) effect does = ap (λ (e : Effect). e.said.line) does
does_memory s (Datagram Time from bytes) effect does = ap (λ (e : Effect). e.said.line) does
does_memory s (Datagram Tftp from bytes) effect does = ap (λ (e : Effect). e.said.line) does
does_memory s (Piece conn bytes) effect does = ap (λ (e : Effect). e.said.line) does
does_memory s (Closed conn) effect does = absurd does
does_memory s Tick effect does = ap (λ (e : Effect). e.said.line) does
does_memory s End effect does = absurd does

does_keeper : (s : State) (what : What) (effect : Effect) → Does s what Keeper effect → effect.said.line ≡ service_word what ++ codes " keeper"
does_keeper s (Datagram Dhcp from bytes) effect does = ap (λ (e : Effect). e.said.line) does
does_keeper s (Datagram Time from bytes) effect does = absurd does
does_keeper s (Datagram Tftp from bytes) effect does = ap (λ (e : Effect). e.said.line) does
does_keeper s (Piece conn bytes) effect does = ap (λ (e : Effect). e.said.line) does
does_keeper s (Closed conn) effect does = absurd does
does_keeper s Tick effect does = absurd does
does_keeper s End effect does = absurd does

-- an event that wasn't acted on says why
pub failure_tells : (s : State) (event : Event) (outcome : Outcome) (effect : Effect) → Step s event outcome effect → (outcome ≡ Did → ⊥)
    → TellsOutcome event.what outcome effect.said.line
unfolding Step
failure_tells s event Did effect step failed = absurd (failed refl)
failure_tells s event Memory effect step failed = does_memory _ event.what effect step
failure_tells s event Keeper effect step failed = does_keeper _ event.what effect step

-- an outcome that is no failure of the keeper and no want of memory
did_of : (o : Outcome) → keeper_failures o ≡ 0 → ¬ (o ≡ Memory) → o ≡ Did
did_of Did f m = refl
did_of Memory f m = absurd (m refl)
did_of Keeper f m = absurd (omega (arith, f))

not_memory : (what : What) (o : Outcome) (line : List ℕ) → TellsOutcome what o line → ¬ (line ≡ service_word what ++ codes " memory") → ¬ (o ≡ Memory)
not_memory what Did line tells silent is = cc
not_memory what Memory line tells silent is = silent tells
not_memory what Keeper line tells silent is = cc

-- where no line says `memory` and the keeper failed in no turn, each event did what its service does
pub turns_did : (turns : List Turn) → All TellsItsOutcome turns → failures_by turns ≡ 0 → All (λ (turn : Turn). ¬ (SaysMemory turn)) turns
    → All (λ (turn : Turn). turn.outcome ≡ Did) turns
turns_did [] tell none silent = All-nil (λ (turn : Turn). turn.outcome ≡ Did)
turns_did (turn ∷ turns) tell none silent =
    let mute : ¬ (SaysMemory turn) = All-head (λ (t : Turn). ¬ (SaysMemory t)) turn turns silent in
    let says : TellsItsOutcome turn = All-head TellsItsOutcome turn turns tell in
    let did : turn.outcome ≡ Did = did_of turn.outcome (omega (arith, none)) (not_memory turn.event.what turn.outcome turn.said.line says mute) in
    All-cons (λ (t : Turn). t.outcome ≡ Did) turn turns did
    (turns_did turns (All-tail TellsItsOutcome turn turns tell) (omega (arith, none)) (All-tail (λ (t : Turn). ¬ (SaysMemory t)) turn turns silent))
