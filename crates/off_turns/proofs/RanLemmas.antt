-- What was taken and sent by the turns so far, with one turn more.
use Rattle.std.proofs.Common.{◌≡◌, ℕ, ◌+◌, true, false, List, [], ◌∷◌, ◌++◌, length, drop, All, refl, sym, ap, ◌∙◌, subst, arith, append_assoc, append-nil, length-append, max}
use Rattle.std.proofs.lemmas.List.Elements.{All-push, All-head, All-tail}
use Rattle.off_defs.specs.declared.events.Event.{Event}
use Rattle.off_defs.specs.Counts.{Grew, Tallied}
use Rattle.off_defs.specs.Events.{end_event}
use Rattle.off_book.specs.Run.{Turn, sent_in, sent_by, moment_of_each, moments_by, events_of, first_events, is_end, IsNoEnd}
use Rattle.off_defs.proofs.ToldLemmas.{told_then}
use Rattle.off_defs.proofs.CountLemmas.{grew_then, tallied_none, tallied_then}
use Rattle.off_book.proofs.RunLemmas.{sent_by_push, lost_by_push}
use Rattle.off_outside.specs.LinkSeen.{LinkSeen}
use Rattle.off_office.specs.Desk.{Desk}
use Rattle.off_outside.specs.LinkCalls.{first_event}
use Rattle.off_turns.specs.Serving.{World, TurnMade, LacksMemory}
use Rattle.off_turns.specs.Loop.{RanTurns, CountsMissed}
use Rattle.off_office.proofs.UpLemmas.{both_chain}

-- the events that were taken are the first of those to come, with one more
next_events : (turns : List Turn) (turn : Turn) (events : List Event) → All IsNoEnd turns
    → events_of turns ≡ first_events (length turns) events → turn.event ≡ first_event (drop (length turns) events)
    → (events_of (turns ++ turn ∷ []) ≡ first_events (length (turns ++ turn ∷ [])) events) × (drop 1 (drop (length turns) events) ≡ drop (length (turns ++ turn ∷ [])) events)
next_events [] turn [] no_end so_far next = (ap (λ v. v ∷ []) next, refl)
next_events [] turn (event ∷ events) no_end so_far next = (ap (λ v. v ∷ []) next, refl)
next_events (first ∷ turns) turn [] no_end so_far next =
    let same : first.event ≡ end_event = cc in
    let yes : is_end first.event.what ≡ true = ap (λ (e : Event). is_end e.what) same in
    let no : is_end first.event.what ≡ false = All-head IsNoEnd first turns no_end in
    absurd (let e : true ≡ false = sym yes ∙ no in cc)
next_events (first ∷ turns) turn (event ∷ events) no_end so_far next =
    let heads : first.event ≡ event = cc in
    let tails : events_of turns ≡ first_events (length turns) events = cc in
    let rest = next_events turns turn events (All-tail IsNoEnd first turns no_end) tails next in
    (ap (λ v. v ∷ events_of (turns ++ turn ∷ [])) heads ∙ ap (λ v. event ∷ v) rest.0, rest.1)

-- no call of `next` has failed yet
pub none_missed : (s : LinkSeen) → CountsMissed [] 0 s s
none_missed s = record { failures = 0; few = omega arith; rows = omega arith; faults = tallied_none s.faults }

-- the failures before one turn more
pub missed_push : {turns : List Turn} {turn : Turn} {before after : Desk} {a : LinkSeen} {b c : World} → CountsMissed turns 0 a b.link → TurnMade turn before after b c
    → CountsMissed (turns ++ turn ∷ []) 0 a c.link
missed_push {turns} {turn} {before} {after} {a} {b} {c} so_far made =
    let sum : so_far.failures + 0 + made.failures ≡ so_far.failures + made.failures + 0 = omega arith in
    record {
      failures = so_far.failures + made.failures;
      few = omega (arith, so_far.few, made.few, length-append turns (turn ∷ []));
      rows = omega (arith, so_far.rows, made.few, made.longest);
      faults = subst (λ n. Tallied n a.faults c.link.faults) sum (tallied_then so_far.faults made.faults);
    }

-- failures behind the last turn
pub missed_behind : {turns : List Turn} {n : ℕ} {a b c : LinkSeen} → CountsMissed turns 0 a b → c.longest ≡ max b.longest n → Tallied n b.faults c.faults → CountsMissed turns n a c
missed_behind {turns} {n} {a} {b} {c} so_far longest more =
    let sum : so_far.failures + 0 + n ≡ so_far.failures + n = omega arith in
    record {
      failures = so_far.failures;
      few = so_far.few;
      rows = omega (arith, so_far.rows, longest);
      faults = subst (λ k. Tallied k a.faults c.faults) sum (tallied_then so_far.faults more);
    }

-- failures behind the last turn, and then want of memory
pub missed_lacks : {turns : List Turn} {a b c : LinkSeen} → (so_far : CountsMissed turns 0 a b) → LacksMemory b c → Grew (so_far.failures + c.missed) a.faults c.faults
missed_lacks {turns} {a} {b} {c} so_far lacks =
    let sum : so_far.failures + 0 + lacks.failures ≡ so_far.failures + c.missed = omega (arith, lacks.missed) in
    subst (λ n. Grew n a.faults c.faults) sum (grew_then so_far.faults.grew lacks.faults)

-- the moments of the turns so far, with one turn more
moments_push : (turns : List Turn) (moments : List ℕ) (turn : Turn) (moment : ℕ) → length moments ≡ length turns
    → moments_by (turns ++ turn ∷ []) (moments ++ moment ∷ []) ≡ moments_by turns moments ++ moment_of_each moment (sent_in turn)
moments_push [] [] turn moment same = append-nil (moment_of_each moment (sent_in turn))
moments_push [] (m ∷ moments) turn moment same = absurd (omega arith)
moments_push (first ∷ turns) [] turn moment same = absurd (omega arith)
moments_push (first ∷ turns) (m ∷ moments) turn moment same =
    ap (λ v. moment_of_each m (sent_in first) ++ v) (moments_push turns moments turn moment (omega arith))
    ∙ sym (append_assoc (moment_of_each m (sent_in first)) (moments_by turns moments) (moment_of_each moment (sent_in turn)))

pub ran_push : {turns : List Turn} {moments : List ℕ} {turn : Turn} {before after : Desk} {a : LinkSeen} {b c : World} → RanTurns turns moments a b.link
    → CountsMissed turns 0 a b.link → All IsNoEnd turns → TurnMade turn before after b c → RanTurns (turns ++ turn ∷ []) (moments ++ c.keeper.moment ∷ []) a c.link
ran_push {turns} {moments} {turn} {before} {after} {a} {b} {c} ran missed no_end made = record {
  left = told_then ran.left made.left (λ x y z before now.
      let next = next_events turns turn x no_end before.0 (now.0 ∙ ap first_event before.1) in
      (next.0, now.1 ∙ (ap (λ v. drop 1 v) before.1 ∙ next.1)));
  marks = All-push (λ (t : Turn). length t.said.items ≡ length t.went) turns turn ran.marks made.marks;
  sent = told_then ran.sent made.sent (λ x y z before now.
      now ∙ (ap (λ k. k ++ sent_in turn) before ∙ (append_assoc x (sent_by turns) (sent_in turn) ∙ ap (λ k. x ++ k) (sym (sent_by_push turns turn)))));
  moments_of = omega (arith, ran.moments_of, length-append moments (c.keeper.moment ∷ []), length-append turns (turn ∷ []));
  moments_are = told_then ran.moments_are made.moments (λ x y z before now.
      let each = moment_of_each c.keeper.moment (sent_in turn) in
      now ∙ (ap (λ k. k ++ each) before ∙ (append_assoc x (moments_by turns moments) each ∙ ap (λ k. x ++ k) (sym (moments_push turns moments turn c.keeper.moment ran.moments_of)))));
  unsent = subst (λ n. Tallied n a.unsent c.link.unsent) (sym (lost_by_push turns turn)) (tallied_then ran.unsent made.unsent);
  up = both_chain missed.faults.grew.later made.faults.grew.later ran.unsent.grew.later made.unsent.grew.later ran.up made.up;
}
