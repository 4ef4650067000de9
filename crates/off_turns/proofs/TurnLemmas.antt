-- One turn: the event that was taken, what the office made of it, what was sent, and the line.
use Rattle.std.proofs.Common.{◌≡◌, ℕ, Bool, ◌&&◌, List, ◌++◌, Result, Ok, Err, MatchResult, refl, ap, ◌∙◌, subst, arith}
use Rattle.off_defs.specs.declared.events.Event.{Event}
use Rattle.off_defs.specs.declared.results.Outcome.{Outcome}
use Rattle.off_defs.specs.declared.writes.Write.{Write}
use Rattle.off_defs.specs.Counts.{Tallied}
use Rattle.off_defs.specs.State.{Said}
use Rattle.off_book.specs.Step.{added_items, completed}
use Rattle.off_book.specs.Run.{Turn, line_text, is_end, lost_in}
use Rattle.off_defs.proofs.ToldLemmas.{stays_then, then_stays, told_weaker}
use Rattle.off_defs.proofs.CountLemmas.{tallied_stays}
use Rattle.off_outside.specs.declared.link.Failed.{Failed}
use Rattle.off_outside.specs.LinkSeen.{LinkSeen}
use Rattle.off_outside.specs.KeeperSeen.{KeeperSeen}
use Rattle.off_outside.specs.Streams.{SinkSeen}
use Rattle.off_office.specs.Desk.{Desk}
use Rattle.off_office.specs.Acting.{Acts}
use Rattle.off_turns.specs.Serving.{World, world_of, TookBehind, LineWritten, LineCut, Acted, ActWritten, ActCut, TurnMade, TurnWritten, TurnCut}
use Rattle.off_office.specs.Sending.{SentAll}
use Rattle.off_office.proofs.SendLemmas.{sent_then}
use Rattle.off_office.proofs.UpLemmas.{by_first, by_second, both_chain}

-- the turn that an event becomes
abbrev turn_of : Event → Outcome → Said → List Write → List Bool → Turn
turn_of event outcome said commit went =
    record { event = event; outcome = outcome; said = completed event.what outcome said; commit = commit; went = went }

acted : (event : Event) (outcome : Outcome) (said : Said) (all : Bool) (before after : Desk) (a b : LinkSeen) (k l : KeeperSeen) (s t : SinkSeen)
    → (acts : Acts event outcome said before after k l) → (sending : SentAll (completed event.what outcome said).items l.moment all a b)
    → Acted event (turn_of event outcome said acts.commit sending.marks) before after (world_of a k s) (world_of b l t)
acted event outcome said all before after a b k l s t acts sending = record {
  taken = refl;
  office = record { tables = acts.tables; fits = acts.fits; up = acts.up; faults = acts.faults; commits = acts.commits; waits = acts.waits; asks = acts.asks; crash = acts.crash; doubts = acts.doubts; tells = acts.tells };
  marks = sending.each;
  left = sending.left;
  sent = sending.sent;
  moments = sending.moments;
  up = sending.up;
  missed = sending.missed;
  longest = sending.longest;
  faults = sending.faults;
  unsent = sending.unsent;
}

ends_as : (event : Event) (n : ℕ) (outcome : Outcome) (said : Said) (text : List ℕ) (all : Bool) (before after : Desk) (a b : LinkSeen) (k l : KeeperSeen) (s t : SinkSeen)
    (r : Result (Unit {0}) Failed) → Acts event outcome said before after k l → SentAll (completed event.what outcome said).items l.moment all a b → text ≡ said.line
    → MatchResult r (λ _. LineWritten text (line_text n event.what text all) s t) (λ _. LineCut text (line_text n event.what text all) s t)
    → MatchResult r (λ _. ActWritten event n before after (world_of a k s) (world_of b l t)) (λ _. ActCut event n before after (world_of a k s) (world_of b l t))
ends_as event n outcome said text all before after a b k l s t (Ok u) acts sending same wrote = record {
  turn = turn_of event outcome said acts.commit sending.marks;
  acted = acted event outcome said all before after a b k l s t acts sending;
  wrote = subst (λ v. LineWritten said.line (line_text n event.what said.line v) s t) sending.all_is (subst (λ v. LineWritten v (line_text n event.what v all) s t) same wrote);
}
ends_as event n outcome said text all before after a b k l s t (Err e) acts sending same cut = record {
  turn = turn_of event outcome said acts.commit sending.marks;
  acted = acted event outcome said all before after a b k l s t acts sending;
  cut = subst (λ v. LineCut said.line (line_text n event.what said.line v) s t) sending.all_is (subst (λ v. LineCut v (line_text n event.what v all) s t) same cut);
}

pub act_ends : (event : Event) (n : ℕ) (outcome : Outcome) (said : Said) (text : List ℕ) (all more : Bool) (before after : Desk) (a b c : LinkSeen) (k l : KeeperSeen) (s t : SinkSeen)
    (r : Result (Unit {0}) Failed) (moment : ℕ) → Acts event outcome said before after k l → moment ≡ l.moment → SentAll said.items moment all a b
    → SentAll (added_items event.what outcome) moment more b c → text ≡ said.line
    → MatchResult r (λ _. LineWritten text (line_text n event.what text (all && more)) s t) (λ _. LineCut text (line_text n event.what text (all && more)) s t)
    → MatchResult r (λ _. ActWritten event n before after (world_of a k s) (world_of c l t)) (λ _. ActCut event n before after (world_of a k s) (world_of c l t))
act_ends event n outcome said text all more before after a b c k l s t r moment acts now sending added same wrote =
    let sent = subst (λ (m : ℕ). SentAll (said.items ++ added_items event.what outcome) m (all && more) a c) now (sent_then said.items (added_items event.what outcome) moment all more sending added) in
    ends_as event n outcome said text (all && more) before after a c k l s t r acts sent same wrote

turn_made : {event : Event} {turn : Turn} {before after : Desk} {a : LinkSeen} {s : SinkSeen} {b c : World} → TookBehind event a b.link → Acted event turn before after b c
    → TurnMade turn before after (world_of a b.keeper s) c
turn_made {turn = turn} {c = c} took act = record {
  left = then_stays (told_weaker took.left (λ x y fits. (act.taken ∙ fits.0, fits.1))) act.left;
  office = act.office;
  marks = act.marks;
  sent = stays_then took.sent act.sent;
  moments = stays_then took.moments act.moments;
  up = both_chain took.faults.grew.later (omega (arith, act.faults)) (omega (arith, took.unsent)) act.unsent.grew.later (λ up. by_first (took.up up)) (λ up. by_second (act.up up));
  missed = act.missed ∙ took.missed;
  failures = took.failures;
  few = took.few;
  longest = act.longest ∙ took.longest;
  faults = tallied_stays took.faults act.faults;
  unsent = subst (λ v. Tallied (lost_in turn) v c.link.unsent) took.unsent act.unsent;
}

pub turn_written : (is_last : Bool) (event : Event) (n : ℕ) (before after : Desk) (a b c : LinkSeen) (k l : KeeperSeen) (s t : SinkSeen)
    → TookBehind event a b → ActWritten event n before after (world_of b k s) (world_of c l t) → is_end event.what ≡ is_last
    → TurnWritten is_last n before after (world_of a k s) (world_of c l t)
turn_written is_last event n before after a b c k l s t took act last = record {
  turn = act.turn;
  made = turn_made took act.acted;
  last = ap (λ (e : Event). is_end e.what) act.acted.taken ∙ last;
  wrote = act.wrote;
}

pub turn_cut : (event : Event) (n : ℕ) (before after : Desk) (a b c : LinkSeen) (k l : KeeperSeen) (s t : SinkSeen)
    → TookBehind event a b → ActCut event n before after (world_of b k s) (world_of c l t) → TurnCut n before after (world_of a k s) (world_of c l t)
turn_cut event n before after a b c k l s t took act = record { turn = act.turn; made = turn_made took act.acted; cut = act.cut }
