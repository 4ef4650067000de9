-- Turns from stage to stage, and what they come to: the whole drill, or its front.
use Rattle.std.proofs.Common.{◌≡◌, ℕ, ◌≤◌, List, [], ◌∷◌, ◌++◌, refl, sym, ap, subst, ◌∙◌, arith, append_assoc}
use Rattle.std.proofs.lemmas.List.Elements.{All-nil, All-cons, All-append, All-head, All-tail}
use Rattle.off_defs.specs.declared.events.Event.{Event}
use Rattle.off_defs.specs.declared.results.Outcome.{Outcome}
use Rattle.off_defs.specs.declared.results.Outcome.TheVariants.{Did}
use Rattle.off_defs.specs.State.{State, Effect}
use Rattle.off_book.specs.Step.{Step}
use Rattle.off_book.specs.Run.{Turn, Run, effect_of, events_of}
use Rattle.off_laws.proofs.StepLaws.{one_result}
use Rattle.off_drill_rules.specs.declared.tally.Tally.{Tally}
use Rattle.off_drill_rules.specs.Numbers.{plus, tally_by}
use Rattle.off_drill_rules.specs.Law.{AllDid, WholeDrill, FrontDrill, DrillSaysOneThing, all_said, drill_state}
use Rattle.off_drill_laws.specs.Stages.{Stage, Waits, Stands, to_come, counted_at, Moves, Along}
use Rattle.off_drill_laws.proofs.StageLemmas.{same_tally}
use Rattle.off_drill_laws.proofs.LawLemmas.{Place, rest_of, none_left, events_all, plus_none}

run_append : (s mid last : State) (turns more : List Turn) → Run s turns mid → Run mid more last → Run s (turns ++ more) last
run_append s mid last [] more run rest = subst (λ (v : State). Run v more last) run rest
run_append s mid last (turn ∷ turns) more run rest = (run.0, (run.1.0, run_append run.0 mid last turns more run.1.1 rest))

events_append : (turns more : List Turn) → events_of (turns ++ more) ≡ events_of turns ++ events_of more
events_append [] more = refl
events_append (turn ∷ turns) more = ap (λ (es : List Event). turn.event ∷ es) (events_append turns more)

plus_assoc : (a b c : Tally) → plus (plus a b) c ≡ plus a (plus b c)
plus_assoc a b c = same_tally (plus (plus a b) c) (plus a (plus b c)) (omega arith) (omega arith) (omega arith) (omega arith) (omega arith)

plus_turned : (a b c : Tally) → plus (plus a b) c ≡ plus b (plus a c)
plus_turned a b c = same_tally (plus (plus a b) c) (plus b (plus a c)) (omega arith) (omega arith) (omega arith) (omega arith) (omega arith)

pub tally_append : (turns more : List Turn) → tally_by (turns ++ more) ≡ plus (tally_by turns) (tally_by more)
tally_append [] more = sym (plus_none (tally_by more))
tally_append (turn ∷ turns) more = ap (plus _) (tally_append turns more) ∙ sym (plus_assoc _ (tally_by turns) (tally_by more))

-- no turn, one turn, and turns behind turns
pub along_none : (n : ℕ) (stage : Stage) (s : State) → Stands n stage s → Along n stage stage [] s s
along_none n stage s stands = record { run = refl; did = All-nil (λ (t : Turn). t.outcome ≡ Did); stands = stands; events = refl; counts = plus_none (counted_at stage) }

pub along_one : (n : ℕ) (from to : Stage) (event : Event) (line : List ℕ) (turn : Turn) (s u : State) → turn.event ≡ event → turn.outcome ≡ Did
    → Step s event Did (effect_of turn u) → Moves n from to event line turn.said u → Along n from to (turn ∷ []) s u
along_one n from to event line turn s u same done step moves = record {
  run = (
    u,
    (
      subst (λ (o : Outcome). Step s turn.event o (effect_of turn u)) (sym done) (subst (λ (e : Event). Step s e Did (effect_of turn u)) (sym same) step),
      refl,
    ),
  );
  did = All-cons (λ (t : Turn). t.outcome ≡ Did) turn [] done (All-nil (λ (t : Turn). t.outcome ≡ Did));
  stands = moves.stands;
  events = ap (λ (e : Event). e ∷ to_come n to) same ∙ sym moves.tail;
  counts = plus_one _ (counted_at from) ∙ moves.counts;
}
  where
    none : Tally
    none = record { offers = 0; acks = 0; files = 0; blocks = 0; octets = 0 }

    plus_one : (a c : Tally) → plus (plus a none) c ≡ plus a c
    plus_one a c = same_tally (plus (plus a none) c) (plus a c) (omega arith) (omega arith) (omega arith) (omega arith) (omega arith)

pub along_then : (n : ℕ) (from by to : Stage) (turns more : List Turn) (s t u : State) → Along n from by turns s t → Along n by to more t u → Along n from to (turns ++ more) s u
along_then n from by to turns more s t u one other = record {
  run = run_append s t u turns more one.run other.run;
  did = All-append (λ (t : Turn). t.outcome ≡ Did) turns more one.did other.did;
  stands = other.stands;
  events =
      ap (λ (es : List Event). es ++ to_come n to) (events_append turns more)
      ∙ append_assoc (events_of turns) (events_of more) (to_come n to)
      ∙ ap (λ (es : List Event). events_of turns ++ es) other.events
      ∙ one.events;
  counts =
      ap (λ (a : Tally). plus a (counted_at from)) (tally_append turns more)
      ∙ plus_turned (tally_by turns) (tally_by more) (counted_at from)
      ∙ ap (plus (tally_by more)) one.counts
      ∙ other.counts;
}

-- ---- turns from the first stage to the last are the whole drill

pub whole_of : (n : ℕ) (turns : List Turn) (last : State) → Along n (Waits 0) (Waits n) turns (drill_state n 0) last → WholeDrill n turns last
whole_of n turns last along = record {
  run = along.run;
  events = sym (append-none (events_of turns)) ∙ ap (λ (es : List Event). events_of turns ++ es) (sym (none_left n)) ∙ along.events ∙ sym (events_all n);
  did = along.did;
}
  where
    append-none : (es : List Event) → es ++ [] ≡ es
    append-none [] = refl
    append-none (e ∷ es) = ap (λ (v : List Event). e ∷ v) (append-none es)

-- and those to any other stage are its front
pub front_of : (n : ℕ) → n ≤ 4000 → (stage : Stage) (turns : List Turn) (mid : State) → Place n stage → Along n (Waits 0) stage turns (drill_state n 0) mid → FrontDrill n turns
front_of n few stage turns mid place along =
    let rest = rest_of n few stage mid place along.stands in
    record {
      more = rest.turns;
      last = rest.last;
      whole = record {
        run = run_append (drill_state n 0) mid rest.last turns rest.turns along.run rest.run;
        events = events_append turns rest.turns ∙ ap (λ (es : List Event). events_of turns ++ es) rest.events ∙ along.events ∙ sym (events_all n);
        did = All-append (λ (t : Turn). t.outcome ≡ Did) turns rest.turns along.did rest.did;
      };
    }

-- ---- what a drill says is one thing

said_once : (s : State) (turns others : List Turn) (last final : State) → Run s turns last → Run s others final → events_of turns ≡ events_of others
    → AllDid turns → AllDid others → all_said turns ≡ all_said others
said_once s [] [] last final run other events did done = refl
said_once s [] (turn ∷ others) last final run other events did done = cc
said_once s (turn ∷ turns) [] last final run other events did done = cc
said_once s (turn ∷ turns) (second ∷ others) last final run other events did done =
    let own : turn.event ≡ second.event = cc in
    let rest : events_of turns ≡ events_of others = cc in
    let first_did : turn.outcome ≡ Did = All-head (λ (t : Turn). t.outcome ≡ Did) turn turns did in
    let second_did : second.outcome ≡ Did = All-head (λ (t : Turn). t.outcome ≡ Did) second others done in
    let one : Step s second.event Did (effect_of turn run.0) =
    subst (λ (e : Event). Step s e Did (effect_of turn run.0)) own (subst (λ (o : Outcome). Step s turn.event o (effect_of turn run.0)) first_did run.1.0) in
    let two : Step s second.event Did (effect_of second other.0) = subst (λ (o : Outcome). Step s second.event o (effect_of second other.0)) second_did other.1.0 in
    let same : effect_of turn run.0 ≡ effect_of second other.0 = one_result s second.event Did (effect_of turn run.0) (effect_of second other.0) one two in
    let said : turn.said ≡ second.said = ap (λ (f : Effect). f.said) same in
    let after : run.0 ≡ other.0 = ap (λ (f : Effect). f.after) same in
    let behind =
    said_once other.0 turns others last final (subst (λ (v : State). Run v turns last) after run.1.1) other.1.1 rest
    (All-tail (λ (t : Turn). t.outcome ≡ Did) turn turns did) (All-tail (λ (t : Turn). t.outcome ≡ Did) second others done) in
    λ j. said j ∷ behind j

pub drill_says_one_thing : DrillSaysOneThing
drill_says_one_thing n turns others last final whole other =
    said_once (drill_state n 0) turns others last final whole.run other.run (whole.events ∙ sym other.events) whole.did other.did
