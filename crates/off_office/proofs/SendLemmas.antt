-- The items of an event, one after another.
use Rattle.std.proofs.Common.{◌≡◌, ℕ, ◌+◌, Bool, true, false, not, ◌&&◌, cond, List, [], ◌∷◌, ◌++◌, length, take, slice_get, Some, ◌<◌, refl, sym, ap, ◌∙◌, subst, arith, append_assoc, append-nil, length-append, inl}
use Rattle.std.proofs.lemmas.List.{take_more}
use Rattle.std.proofs.lemmas.List.Sums.{sum_by-append}
use Rattle.std.proofs.lemmas.Option.{get_or_from_slice_get}
use Rattle.off_defs.specs.declared.results.Sent.{Sent}
use Rattle.off_defs.specs.Counts.{Tallied}
use Rattle.off_book.specs.Run.{all_went, marked, moment_of_each}
use Rattle.off_defs.proofs.ToldLemmas.{told_then, told_self, stays_self, then_stays}
use Rattle.off_defs.proofs.CountLemmas.{tallied_none, tallied_one, tallied_then, tallied_stays}
use Rattle.off_book.proofs.RunLemmas.{marked_push, all_went_push, lost_push}
use Rattle.off_outside.specs.LinkSeen.{LinkSeen}
use Rattle.off_office.specs.Sending.{SentOne, SentAll}
use Rattle.off_office.proofs.UpLemmas.{up_chain}

tallied_same : {a b : ℕ} → b ≡ a → Tallied 0 a b
tallied_same {a} {b} same = tallied_stays (tallied_none a) same

pub sent_none : (moment : ℕ) (s : LinkSeen) → SentAll [] moment true s s
sent_none moment s = record {
  marks = [];
  each = refl;
  all_is = refl;
  left = stays_self;
  sent = told_self (λ x. sym (append-nil x));
  moments = told_self (λ x. sym (append-nil x));
  up = λ up. inl up;
  missed = refl;
  longest = refl;
  faults = refl;
  unsent = tallied_none s.unsent;
}

and_cond : (a b : Bool) → (a && b) ≡ cond a b false
and_cond true b = refl
and_cond false b = refl

all_with : (all went : Bool) (marks : List Bool) → all ≡ all_went marks → (all && went) ≡ all_went (marks ++ went ∷ [])
all_with all went marks is = and_cond all went ∙ (ap (λ v. cond v went false) is ∙ sym (all_went_push marks went))

same_lengths : (items : List Sent) (item : Sent) (marks : List Bool) (mark : Bool) → length items ≡ length marks → length (items ++ item ∷ []) ≡ length (marks ++ mark ∷ [])
same_lengths items item marks mark same = omega (arith, length-append items (item ∷ []), length-append marks (mark ∷ []))

-- the moments of items, and of items behind them
moments_then : (moment : ℕ) (items more : List Sent) → moment_of_each moment items ++ moment_of_each moment more ≡ moment_of_each moment (items ++ more)
moments_then moment [] more = refl
moments_then moment (item ∷ items) more = ap (λ (v : List ℕ). moment ∷ v) (moments_then moment items more)

pub sent_more : (items : List Sent) (item : Sent) (moment : ℕ) (all went : Bool) {a b c : LinkSeen} → SentAll items moment all a b → SentOne item moment went b c
    → SentAll (items ++ item ∷ []) moment (all && went) a c
sent_more items item moment all true {a} {b} {c} p q = record {
  marks = p.marks ++ true ∷ [];
  each = same_lengths items item p.marks true p.each;
  all_is = all_with all true p.marks p.all_is;
  left = then_stays p.left q.left;
  sent = told_then p.sent q.sent (λ x y z before after.
      after ∙ (ap (λ v. v ++ item ∷ []) before ∙ (append_assoc x (marked items p.marks) (item ∷ []) ∙ ap (λ v. x ++ v) (sym (marked_push items p.marks item true p.each)))));
  moments = told_then p.moments q.moments (λ x y z before after.
      after ∙ (ap (λ v. v ++ moment ∷ []) before
      ∙ (append_assoc x (moment_of_each moment (marked items p.marks)) (moment ∷ [])
      ∙ ap (λ v. x ++ v) (moments_then moment (marked items p.marks) (item ∷ []) ∙ ap (λ v. moment_of_each moment v) (sym (marked_push items p.marks item true p.each))))));
  up = up_chain p.unsent.grew.later (omega (arith, q.unsent)) p.up (λ up. inl (q.up up));
  missed = q.missed ∙ p.missed;
  longest = q.longest ∙ p.longest;
  faults = q.faults ∙ p.faults;
  unsent = subst (λ n. Tallied n a.unsent c.unsent) (sym (lost_push p.marks true)) (tallied_then p.unsent (tallied_same q.unsent));
}
sent_more items item moment all false {a} {b} {c} p q = record {
  marks = p.marks ++ false ∷ [];
  each = same_lengths items item p.marks false p.each;
  all_is = all_with all false p.marks p.all_is;
  left = then_stays p.left q.left;
  sent = told_then p.sent q.sent (λ x y z before same.
      same ∙ (before ∙ (ap (λ v. x ++ v) (sym (append-nil (marked items p.marks)) ∙ sym (marked_push items p.marks item false p.each)))));
  moments = told_then p.moments q.moments (λ x y z before same.
      same ∙ (before ∙ ap (λ v. x ++ moment_of_each moment v) (sym (append-nil (marked items p.marks)) ∙ sym (marked_push items p.marks item false p.each))));
  up = up_chain p.unsent.grew.later q.unsent.later p.up q.up;
  missed = q.missed ∙ p.missed;
  longest = q.longest ∙ p.longest;
  faults = q.faults ∙ p.faults;
  unsent = subst (λ n. Tallied n a.unsent c.unsent) (sym (lost_push p.marks false)) (tallied_then p.unsent (tallied_one q.unsent));
}

-- the items up to i, and item i
pub one_more_item : (items : List Sent) (i : ℕ) (item : Sent) → i < length items → slice_get items i ≡ Some item → take (i + 1) items ≡ take i items ++ item ∷ []
one_more_item items i item within is = take_more items i item within ∙ ap (λ v. take i items ++ v ∷ []) (get_or_from_slice_get items i item item is)

-- items, and items behind them
marked_then : (items more : List Sent) (marks others : List Bool) → length items ≡ length marks → marked (items ++ more) (marks ++ others) ≡ marked items marks ++ marked more others
marked_then [] more [] others same = refl
marked_then [] more (m ∷ marks) others same = absurd (omega arith)
marked_then (i ∷ items) more [] others same = absurd (omega arith)
marked_then (i ∷ items) more (true ∷ marks) others same = ap (λ v. i ∷ v) (marked_then items more marks others (omega arith))
marked_then (i ∷ items) more (false ∷ marks) others same = marked_then items more marks others (omega arith)

all_then : (marks others : List Bool) → all_went (marks ++ others) ≡ cond (all_went marks) (all_went others) false
all_then [] others = refl
all_then (true ∷ marks) others = all_then marks others
all_then (false ∷ marks) others = refl

both_went : (all more : Bool) (marks others : List Bool) → all ≡ all_went marks → more ≡ all_went others → (all && more) ≡ all_went (marks ++ others)
both_went all more marks others p q =
    and_cond all more ∙ (ap (λ v. cond v more false) p ∙ (ap (λ v. cond (all_went marks) v false) q ∙ sym (all_then marks others)))

pub sent_then : (items more : List Sent) (moment : ℕ) (all other : Bool) {a b c : LinkSeen} → SentAll items moment all a b → SentAll more moment other b c
    → SentAll (items ++ more) moment (all && other) a c
sent_then items more moment all other {a} {b} {c} p q = record {
  marks = p.marks ++ q.marks;
  each = omega (arith, length-append items more, length-append p.marks q.marks, p.each, q.each);
  all_is = both_went all other p.marks q.marks p.all_is q.all_is;
  left = then_stays p.left q.left;
  sent = told_then p.sent q.sent (λ x y z before after.
      after ∙ (ap (λ v. v ++ marked more q.marks) before ∙ (append_assoc x (marked items p.marks) (marked more q.marks) ∙ ap (λ v. x ++ v) (sym (marked_then items more p.marks q.marks p.each)))));
  moments = told_then p.moments q.moments (λ x y z before after.
      after ∙ (ap (λ v. v ++ moment_of_each moment (marked more q.marks)) before
      ∙ (append_assoc x (moment_of_each moment (marked items p.marks)) (moment_of_each moment (marked more q.marks))
      ∙ ap (λ v. x ++ v) (moments_then moment (marked items p.marks) (marked more q.marks) ∙ ap (λ v. moment_of_each moment v) (sym (marked_then items more p.marks q.marks p.each))))));
  up = up_chain p.unsent.grew.later q.unsent.grew.later p.up q.up;
  missed = q.missed ∙ p.missed;
  longest = q.longest ∙ p.longest;
  faults = q.faults ∙ p.faults;
  unsent = subst (λ n. Tallied n a.unsent c.unsent) (sym (sum_by-append (λ m. cond (not m) 1 0) p.marks q.marks)) (tallied_then p.unsent q.unsent);
}

pub sent_two : (one other : Sent) (moment : ℕ) (first second : Bool) (a b c : LinkSeen) → SentOne one moment first a b → SentOne other moment second b c
    → SentAll (one ∷ other ∷ []) moment (first && second) a c
sent_two one other moment first second a b c p q = sent_more (one ∷ []) other moment first second (sent_more [] one moment true first (sent_none moment a) p) q
