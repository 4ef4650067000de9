-- The loop over the events: what holds after each turn, and what each end of the loop comes to.
use Rattle.std.proofs.Common.{◌≡◌, ℕ, ◌+◌, ◌-◌, ◌<◌, ◌≤◌, ◌⊎◌, true, false, List, [], ◌∷◌, ◌++◌, length, take, drop, All, refl, sym, ap, ◌∙◌, subst, inl, inr, arith, append_assoc, append-nil, length-append}
use Rattle.std.proofs.Math.Seq.{take-append_seam, drop-append_seam}
use Rattle.std.proofs.lemmas.List.Elements.{All-same, All-push, All-take, All-nil, All-cons}
use Rattle.off_defs.specs.Told.{Stays}
use Rattle.off_defs.specs.Counts.{Grew, calls_after}
use Rattle.off_defs.specs.State.{Tables, state_of}
use Rattle.off_book.specs.Run.{Turn, writes_by, line_of, lines_from, is_end, IsNoEnd, EndsLast}
use Rattle.off_defs.proofs.ToldLemmas.{told_then, told_self, then_stays}
use Rattle.off_defs.proofs.CountLemmas.{later_grew, tallied_none, tallied_stays}
use Rattle.off_book.proofs.RunLemmas.{writes_by_push, lines_from_push}
use Rattle.off_book.proofs.SavesLemmas.{saves_none}
use Rattle.off_outside.specs.LinkSeen.{LinkSeen}
use Rattle.off_outside.specs.KeeperSeen.{KeeperSeen, Rests}
use Rattle.off_office.specs.Desk.{Desk}
use Rattle.off_outside.specs.Streams.{SinkSeen, SinkUnasked, Wrote, NotWritten}
use Rattle.off_turns.specs.declared.events.Stop.TheVariants as stop
use Rattle.off_turns.specs.Serving.{World, LineWritten, TurnWritten, TurnCut, NoTurn, LacksMemory, Missed, most_missed}
use Rattle.off_turns.specs.Loop.{WroteText, CutText, SavesIn, RanTurns, CountsMissed, SoFar, Served}
use Rattle.off_office.proofs.UpLemmas.{up_behind, up_chain, by_first, both_chain}
use Rattle.off_turns.proofs.RanLemmas.{none_missed, missed_push, missed_behind, missed_lacks, ran_push}
use Rattle.off_turns.proofs.FromLemmas.{from_push, from_same}

-- `n` turns so far
pub record Going (n : ℕ) (first last : Desk) (old new : World) : Type 0 where
  pub turns : List Turn
  pub count : length turns ≡ n
  pub so_far : SoFar turns first last old new

pub wrote_more : {x y : List ℕ} {a b c : SinkSeen} → WroteText x a b → Wrote y b c → WroteText (x ++ y) a c
wrote_more {x} {y} p q = record {
  written = told_then p.written q.written (λ u v w before now. now ∙ (ap (λ k. k ++ y) before ∙ append_assoc u x y));
  up = λ up. q.up (p.up up);
  faults = q.faults ∙ p.faults;
}

pub wrote_none : (a : SinkSeen) → WroteText [] a a
wrote_none a = record { written = told_self (λ x. sym (append-nil x)); up = λ up. up; faults = refl }

pub wrote_same : {x : List ℕ} {a b c : SinkSeen} → WroteText x a b → SinkUnasked b c → WroteText x a c
wrote_same p q = record { written = then_stays p.written q.written; up = λ up. q.up (p.up up); faults = q.faults ∙ p.faults }

begins_so : (first : Desk) (k : KeeperSeen) → Rests k → (x : Tables) → k.tables x → SavesIn k k (state_of x first.held) [] [] (state_of x first.held)
begins_so first k rests x told = record {
  saves = saves_none (state_of x first.held) refl (λ u shown. rests x told u shown);
  sent = tt;
}

pub going_none : (first : Desk) (w : World) → Rests w.keeper → w.link.missed ≡ 0 → Going 0 first first w w
going_none first w rests none = record {
  turns = [];
  count = refl;
  so_far = record {
    moments = [];
    ran = record {
      left = told_self (λ x. (refl, refl));
      marks = All-nil _;
      sent = told_self (λ x. sym (append-nil x));
      moments_of = refl;
      moments_are = told_self (λ x. sym (append-nil x));
      unsent = tallied_none w.link.unsent;
      up = λ up. inl up;
    };
    office = record {
      run = record { each = λ x told. record { value = x; told = told; fits = record { holds = λ agree. (begins_so first w.keeper rests x told, agree) } } };
      past = λ m u early opened. opened;
      later = omega arith;
      fits = told_self (λ x fits. fits);
      keeper = record { faults = tallied_none w.keeper.faults; commits = refl; up = λ up. inl up };
      tell = All-nil _;
    };
    no_end = All-nil _;
    missed = none;
    faults = none_missed w.link;
    text = wrote_none w.sink;
    writes = refl;
  };
}

-- the line of the turn behind n others
line_number : (n : ℕ) (turns : List Turn) (turn : Turn) → length turns ≡ n → line_of (n + 1) turn ≡ line_of (1 + length turns) turn
line_number n turns turn count = let e : n + 1 ≡ 1 + length turns = omega arith in ap (λ k. line_of k turn) e

line_more : {words x y : List ℕ} {a b c : SinkSeen} → WroteText x a b → LineWritten words y b c → WroteText (x ++ y) a c
line_more {words} {x} {y} p q = record {
  written = told_then p.written q.written (λ u v w before now. now ∙ (ap (λ k. k ++ y) before ∙ append_assoc u x y));
  up = λ up. q.up (p.up up);
  faults = q.faults ∙ p.faults;
}

-- one more line
writes_more : (turns : List Turn) (turn : Turn) (a b c : ℕ) → b ≡ writes_by turns a → c ≡ calls_after turn.said.line b → c ≡ writes_by (turns ++ turn ∷ []) a
writes_more turns turn a b c so_far one = one ∙ (ap (calls_after turn.said.line) so_far ∙ sym (writes_by_push turns turn a))

text_more : (n : ℕ) (turns : List Turn) (turn : Turn) {a b c : SinkSeen} → length turns ≡ n → WroteText (lines_from 1 turns) a b → LineWritten turn.said.line (line_of (n + 1) turn) b c
    → WroteText (lines_from 1 (turns ++ turn ∷ [])) a c
text_more n turns turn {a} {b} {c} count text wrote =
    subst (λ v. WroteText v a c) (sym (lines_from_push 1 turns turn)) (line_more text (subst (λ v. LineWritten turn.said.line v b c) (line_number n turns turn count) wrote))

pub going_more : {n : ℕ} {first before after : Desk} {a b c : World} → Rests c.keeper → Going n first before a b → TurnWritten false (n + 1) before after b c → Going (n + 1) first after a c
going_more {n} {first} {before} {after} {a} {b} {c} rests going went = record {
  turns = going.turns ++ went.turn ∷ [];
  count = omega (arith, length-append going.turns (went.turn ∷ []), going.count);
  so_far = record {
    moments = going.so_far.moments ++ c.keeper.moment ∷ [];
    ran = ran_push going.so_far.ran going.so_far.faults going.so_far.no_end went.made;
    office = from_push rests going.so_far.office went.made.office;
    no_end = All-push IsNoEnd going.turns went.turn going.so_far.no_end went.last;
    missed = went.made.missed;
    faults = missed_push going.so_far.faults went.made;
    text = text_more _ _ _ going.count going.so_far.text went.wrote;
    writes = writes_more going.turns went.turn a.sink.calls b.sink.calls c.sink.calls going.so_far.writes went.wrote.calls;
  };
}

ends_last : (turns : List Turn) (turn : Turn) → All IsNoEnd turns → EndsLast (turns ++ turn ∷ [])
ends_last turns turn no_end =
    let e : length (turns ++ turn ∷ []) - 1 ≡ length turns = omega (arith, length-append turns (turn ∷ [])) in
    All-same IsNoEnd _ turns (ap (λ k. take k (turns ++ turn ∷ [])) e ∙ take-append_seam turns (turn ∷ [])) no_end

-- the last turn is the one behind the others
last_is : (turns : List Turn) (turn : Turn) → is_end turn.event.what ≡ true → All (λ (t : Turn). is_end t.event.what ≡ true) (drop (length (turns ++ turn ∷ []) - 1) (turns ++ turn ∷ []))
last_is turns turn is =
    let e : length (turns ++ turn ∷ []) - 1 ≡ length turns = omega (arith, length-append turns (turn ∷ [])) in
    All-same (λ (t : Turn). is_end t.event.what ≡ true) _ (turn ∷ []) (ap (λ k. drop k (turns ++ turn ∷ [])) e ∙ drop-append_seam turns (turn ∷ []))
    (All-cons (λ (t : Turn). is_end t.event.what ≡ true) turn [] is (All-nil (λ (t : Turn). is_end t.event.what ≡ true)))

-- a line that was cut behind the text so far
pub cut_more : {x y : List ℕ} {a b c : SinkSeen} → WroteText x a b → NotWritten y b c → CutText x y a c
cut_more {x} {y} p q = record {
  written = told_then p.written q.written (λ u v w before front. record { count = front.count; front = front.front ∙ ap (λ k. k ++ take front.count y) before });
  up = λ up. up_behind (omega (arith, p.faults)) (q.up (p.up up));
  faults = later_grew (omega (arith, p.faults)) q.faults;
}

pub cut_same : {x y : List ℕ} {a b c : SinkSeen} → CutText x y a b → SinkUnasked b c → CutText x y a c
cut_same {x} {y} {a} {b} {c} p q = record {
  written = then_stays p.written q.written;
  up = up_chain p.faults.later (omega (arith, q.faults)) p.up (λ up. inl (q.up up));
  faults = subst (λ v. Grew 1 a.faults v) (sym q.faults) p.faults;
}

-- nothing was taken or sent
ran_stays : {turns : List Turn} {moments : List ℕ} {a b c : LinkSeen} → RanTurns turns moments a b → CountsMissed turns 0 a b → Stays b.left c.left → Stays b.sent c.sent → Stays b.moments c.moments
    → (b.up → c.up ⊎ Grew 1 b.faults c.faults) → b.faults ≤ c.faults → c.unsent ≡ b.unsent → RanTurns turns moments a c
ran_stays {turns} {moments} {a} {b} {c} ran missed left sent same up later unsent = record {
  left = then_stays ran.left left;
  marks = ran.marks;
  sent = then_stays ran.sent sent;
  moments_of = ran.moments_of;
  moments_are = then_stays ran.moments_are same;
  unsent = tallied_stays ran.unsent unsent;
  up = both_chain missed.faults.grew.later later ran.unsent.grew.later (omega (arith, unsent)) ran.up (λ is. by_first (up is));
}

no_end_ends : (turns : List Turn) → All IsNoEnd turns → EndsLast turns
no_end_ends turns no_end = All-take IsNoEnd (length turns - 1) turns no_end

pub served_end : {n budget : ℕ} {first before after : Desk} {a b c : World} → Rests c.keeper → Going n first before a b → n < budget → TurnWritten true (n + 1) before after b c → Served stop.Finished budget first after a c
served_end {n} {budget} {first} {before} {after} {a} {b} {c} rests going more ended = record {
  turns = going.turns ++ ended.turn ∷ [];
  within = omega (arith, length-append going.turns (ended.turn ∷ []), going.count);
  ends_last = ends_last going.turns ended.turn going.so_far.no_end;
  moments = going.so_far.moments ++ c.keeper.moment ∷ [];
  ran = ran_push going.so_far.ran going.so_far.faults going.so_far.no_end ended.made;
  office = from_push rests going.so_far.office ended.made.office;
  stops = record {
    cause = inr (omega (arith, length-append going.turns (ended.turn ∷ [])), last_is going.turns ended.turn ended.last);
    missed = ended.made.missed;
    faults = missed_push going.so_far.faults ended.made;
    text = text_more _ _ _ going.count going.so_far.text ended.wrote;
  };
  writes = writes_more going.turns ended.turn a.sink.calls b.sink.calls c.sink.calls going.so_far.writes ended.wrote.calls;
}

pub served_cut : {n budget : ℕ} {first before after : Desk} {a b c : World} → Rests c.keeper → Going n first before a b → n < budget → TurnCut (n + 1) before after b c → Served stop.Sink budget first after a c
served_cut {n} {budget} {first} {before} {after} {a} {b} {c} rests going more cut = record {
  turns = going.turns ++ cut.turn ∷ [];
  within = omega (arith, length-append going.turns (cut.turn ∷ []), going.count);
  ends_last = ends_last going.turns cut.turn going.so_far.no_end;
  moments = going.so_far.moments ++ c.keeper.moment ∷ [];
  ran = ran_push going.so_far.ran going.so_far.faults going.so_far.no_end cut.made;
  office = from_push rests going.so_far.office cut.made.office;
  stops = record {
    front = going.turns;
    last = cut.turn;
    parts = refl;
    missed = cut.made.missed;
    faults = missed_push going.so_far.faults cut.made;
    text = let e : n + 1 ≡ length going.turns + 1 = omega (arith, going.count) in cut_more going.so_far.text (subst (λ k. NotWritten (line_of k cut.turn) b.sink c.sink) e cut.cut.cut);
  };
  writes = writes_more going.turns cut.turn a.sink.calls b.sink.calls c.sink.calls going.so_far.writes cut.cut.calls;
}

pub served_memory : {n budget : ℕ} {first before after : Desk} {a b c : World} → Going n first before a b → n < budget → NoTurn LacksMemory before after b c → Served stop.Memory budget first after a c
served_memory {n} {budget} {first} {before} {after} {a} {b} {c} going more lacks = record {
  turns = going.turns;
  within = omega (arith, going.count);
  ends_last = no_end_ends going.turns going.so_far.no_end;
  moments = going.so_far.moments;
  ran = ran_stays going.so_far.ran going.so_far.faults lacks.link.left lacks.link.sent lacks.link.moments lacks.link.up lacks.link.faults.later lacks.link.unsent;
  office = from_same going.so_far.office lacks.same lacks.keeper;
  stops = (
    record {
      more = omega (arith, going.count);
      no_end = going.so_far.no_end;
      missed = omega (arith, lacks.link.missed, lacks.link.few);
      failures = going.so_far.faults.failures;
      few = going.so_far.faults.few;
      rows = omega (arith, going.so_far.faults.rows, lacks.link.few, lacks.link.longest);
      faults = missed_lacks going.so_far.faults lacks.link;
    },
    wrote_same going.so_far.text lacks.sink,
  );
  writes = lacks.sink.calls ∙ going.so_far.writes;
}

pub served_missed : {n budget : ℕ} {first before after : Desk} {a b c : World} → Going n first before a b → n < budget → NoTurn (Missed most_missed) before after b c → Served stop.Link budget first after a c
served_missed {n} {budget} {first} {before} {after} {a} {b} {c} going more missed = record {
  turns = going.turns;
  within = omega (arith, going.count);
  ends_last = no_end_ends going.turns going.so_far.no_end;
  moments = going.so_far.moments;
  ran = ran_stays going.so_far.ran going.so_far.faults missed.link.left missed.link.sent missed.link.moments missed.link.up missed.link.faults.grew.later missed.link.unsent;
  office = from_same going.so_far.office missed.same missed.keeper;
  stops = (
    record {
      more = omega (arith, going.count);
      no_end = going.so_far.no_end;
      missed = missed.link.missed;
      faults = missed_behind going.so_far.faults missed.link.longest missed.link.faults;
    },
    wrote_same going.so_far.text missed.sink,
  );
  writes = missed.sink.calls ∙ going.so_far.writes;
}

pub served_all : {n budget : ℕ} {first last : Desk} {a b : World} → Going n first last a b → budget ≤ n → n ≤ budget → Served stop.Finished budget first last a b
served_all {n} {budget} {first} {last} {a} {b} going all within = record {
  turns = going.turns;
  within = omega (arith, going.count);
  ends_last = no_end_ends going.turns going.so_far.no_end;
  moments = going.so_far.moments;
  ran = going.so_far.ran;
  office = going.so_far.office;
  stops = record {
    cause = inl (omega (arith, going.count), going.so_far.no_end);
    missed = going.so_far.missed;
    faults = going.so_far.faults;
    text = going.so_far.text;
  };
  writes = going.so_far.writes;
}
