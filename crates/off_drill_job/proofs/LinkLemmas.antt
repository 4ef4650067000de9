-- What turns of a drill, one behind another, do to the link.
use Rattle.std.proofs.Common.{◌≡◌, ℕ, ◌+◌, List, [], ◌∷◌, ◌++◌, length, refl, sym, ap, subst, ◌∙◌, inl, arith, append_assoc, append-nil}
use Rattle.std.proofs.lemmas.List.Elements.{All-nil, All-append}
use Rattle.off_defs.specs.declared.results.Sent.{Sent}
use Rattle.off_defs.specs.Counts.{Tallied}
use Rattle.off_defs.proofs.ToldLemmas.{told_then, told_self, stays_self, then_stays}
use Rattle.off_defs.proofs.CountLemmas.{tallied_none, tallied_then, tallied_stays}
use Rattle.off_book.specs.Run.{Turn, sent_in, sent_by, lost_by}
use Rattle.off_outside.specs.LinkSeen.{LinkSeen}
use Rattle.off_outside.specs.LinkCalls.{LinkUnasked}
use Rattle.off_office.proofs.UpLemmas.{up_chain}
use Rattle.off_drill_job.specs.Exercising.{SentTurns}

sent_append : (turns more : List Turn) → sent_by (turns ++ more) ≡ sent_by turns ++ sent_by more
sent_append [] more = refl
sent_append (turn ∷ turns) more = ap (λ (v : List Sent). sent_in turn ++ v) (sent_append turns more) ∙ sym (append_assoc (sent_in turn) (sent_by turns) (sent_by more))

lost_append : (turns more : List Turn) → lost_by (turns ++ more) ≡ lost_by turns + lost_by more
lost_append [] more = omega arith
lost_append (turn ∷ turns) more = let rest = lost_append turns more in omega (arith, rest)

pub sent_nothing : (l : LinkSeen) → SentTurns [] l l
sent_nothing l = record {
  left = stays_self;
  marks = All-nil (λ (t : Turn). length t.said.items ≡ length t.went);
  sent = told_self (λ x. sym (append-nil x));
  unsent = tallied_none l.unsent;
  up = λ up. inl up;
  missed = refl;
  longest = refl;
  faults = refl;
}

pub sent_turns : {turns more : List Turn} {a b c : LinkSeen} → SentTurns turns a b → SentTurns more b c → SentTurns (turns ++ more) a c
sent_turns {turns} {more} {a} {b} {c} p q = record {
  left = then_stays p.left q.left;
  marks = All-append (λ (t : Turn). length t.said.items ≡ length t.went) turns more p.marks q.marks;
  sent = told_then p.sent q.sent (λ x y z before after.
      after ∙ ap (λ (v : List Sent). v ++ sent_by more) before ∙ append_assoc x (sent_by turns) (sent_by more) ∙ ap (λ (v : List Sent). x ++ v) (sym (sent_append turns more)));
  unsent = subst (λ (n : ℕ). Tallied n a.unsent c.unsent) (sym (lost_append turns more)) (tallied_then p.unsent q.unsent);
  up = up_chain p.unsent.grew.later q.unsent.grew.later p.up q.up;
  missed = q.missed ∙ p.missed;
  longest = q.longest ∙ p.longest;
  faults = q.faults ∙ p.faults;
}

pub sent_unasked : {turns : List Turn} {a b c : LinkSeen} → SentTurns turns a b → LinkUnasked b c → SentTurns turns a c
sent_unasked {turns} {a} {b} {c} p q = record {
  left = then_stays p.left q.left;
  marks = p.marks;
  sent = then_stays p.sent q.sent;
  unsent = tallied_stays p.unsent q.unsent;
  up = up_chain p.unsent.grew.later (let e = q.unsent in omega (arith, e)) p.up (λ up. inl (q.up up));
  missed = q.missed ∙ p.missed;
  longest = q.longest ∙ p.longest;
  faults = q.faults ∙ p.faults;
}

pub link_unasked : (l : LinkSeen) → LinkUnasked l l
link_unasked l = record { left = stays_self; sent = stays_self; moments = stays_self; up = λ up. up; missed = refl; longest = refl; faults = refl; unsent = refl }
