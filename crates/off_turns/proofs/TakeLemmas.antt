-- The tries to take an event.
use Rattle.std.proofs.Common.{◌≡◌, ℕ, ◌+◌, ◌<◌, refl, ap, ◌∙◌, inl, arith, max}
use Rattle.off_defs.specs.declared.events.Event.{Event}
use Rattle.off_defs.specs.Counts.{one_more}
use Rattle.off_defs.proofs.ToldLemmas.{stays_self, stays_then, then_stays}
use Rattle.off_defs.proofs.CountLemmas.{tallied_none, tallied_one, tallied_then, tallied_stays, grew_later}
use Rattle.off_outside.specs.declared.link.LinkErr.TheVariants as link_err
use Rattle.off_outside.specs.LinkSeen.{LinkSeen}
use Rattle.off_outside.specs.LinkCalls.{Took, NotTook}
use Rattle.off_office.proofs.UpLemmas.{up_chain}
use Rattle.off_turns.specs.Serving.{Missed, TookBehind, LacksMemory, most_missed}

pub missed_none : {s : LinkSeen} → s.missed ≡ 0 → Missed 0 s s
missed_none {s} none = record {
  left = stays_self;
  sent = stays_self;
  moments = stays_self;
  up = λ up. inl up;
  missed = none;
  longest = omega arith;
  faults = tallied_none s.faults;
  unsent = refl;
}

-- a row of failures that is longer by one
longer : (n l m k : ℕ) → m ≡ max l n → k ≡ n + 1 → max m k ≡ max l (n + 1)
longer n l m k is next = omega (arith, is, next)

pub missed_more : {n : ℕ} {a b c : LinkSeen} → Missed n a b → NotTook link_err.Failed b c → n < most_missed → Missed (n + 1) a c
missed_more {n} {a} {b} {c} p q few = record {
  left = then_stays p.left q.left;
  sent = then_stays p.sent q.sent;
  moments = then_stays p.moments q.moments;
  up = up_chain p.faults.grew.later q.faults.later p.up q.up;
  missed = q.missed ∙ (ap one_more p.missed ∙ omega arith);
  longest = q.longest ∙ longer n a.longest b.longest (one_more b.missed) p.longest (ap one_more p.missed ∙ omega arith);
  faults = tallied_then p.faults (tallied_one q.faults);
  unsent = q.unsent ∙ p.unsent;
}

pub missed_took : {n : ℕ} {event : Event} {a b c : LinkSeen} → Missed n a b → Took event b c → n < most_missed → TookBehind event a c
missed_took {n} p q few = record {
  failures = n;
  few = few;
  left = stays_then p.left q.left;
  sent = then_stays p.sent q.sent;
  moments = then_stays p.moments q.moments;
  up = up_chain p.faults.grew.later (omega (arith, q.faults)) p.up (λ up. inl (q.up up));
  missed = q.missed;
  longest = q.longest ∙ p.longest;
  faults = tallied_stays p.faults q.faults;
  unsent = q.unsent ∙ p.unsent;
}

pub missed_memory : {n : ℕ} {a b c : LinkSeen} → Missed n a b → NotTook link_err.Memory b c → n < most_missed → LacksMemory a c
missed_memory {n} p q few = record {
  failures = n;
  few = few;
  left = then_stays p.left q.left;
  sent = then_stays p.sent q.sent;
  moments = then_stays p.moments q.moments;
  up = up_chain p.faults.grew.later q.faults.later p.up q.up;
  missed = q.missed ∙ p.missed;
  longest = q.longest ∙ p.longest;
  faults = grew_later p.faults.grew q.faults.later;
  unsent = q.unsent ∙ p.unsent;
}
