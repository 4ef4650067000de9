-- What a crash leaves over calls of a disk.
use Rattle.std.proofs.Common.{◌≡◌, ℕ, ◌+◌, ◌<◌, ◌≤◌, ◌⊎◌, inl, inr, List, ◌++◌, length, take, drop, refl, sym, ap, subst, ◌∙◌, arith, append_assoc, length-append, length-take, length-drop}
use Rattle.std.proofs.lemmas.Bool.{cases_lt}
use Rattle.std.proofs.lemmas.List.{take_at, drop_at}
use Rattle.off_defs.specs.Counts.{Grew}
use Rattle.off_disk.specs.DiskSeen.{DiskSeen}
use Rattle.off_disk.specs.DiskCalls.{Same, Torn, Holds, Passes, From, Onto, Kept, HasWritten, NotWritten, HasSynced, NotSynced, HasStored}
use Rattle.off_disk.specs.Crashing.{AllLeft, Leaves, Elapsed}

-- ---- torn writes

pub torn_self : (at n : ℕ) (b : List ℕ) → Torn at n b b
torn_self at n b = record { before = refl; behind = refl; no_shorter = omega arith; no_longer = omega arith }

-- a write that is done whole is one of those that may be torn
pub whole_torn : (b : List ℕ) (at : ℕ) (piece : List ℕ) → at ≤ length b → Torn at (length piece) b (take at b ++ (piece ++ drop (at + length piece) b))
whole_torn b at piece fits =
    let front : length (take at b) ≡ at = omega (arith, length-take at b) in
    let both : length (take at b ++ piece) ≡ at + length piece = omega (arith, front, length-append (take at b) piece) in
    let whole : take at b ++ (piece ++ drop (at + length piece) b) ≡ (take at b ++ piece) ++ drop (at + length piece) b = sym (append_assoc (take at b) piece (drop (at + length piece) b)) in
    let size : length (take at b ++ (piece ++ drop (at + length piece) b)) ≡ at + length piece + length (drop (at + length piece) b) = ap length whole ∙ (length-append (take at b ++ piece) (drop (at + length piece) b) ∙ omega (arith, both)) in
    record {
      before = take_at (take at b) (piece ++ drop (at + length piece) b) at front;
      behind = ap (λ (l : List ℕ). drop (at + length piece) l) whole ∙ drop_at (take at b ++ piece) (drop (at + length piece) b) (at + length piece) both;
      no_shorter = omega (arith, size, length-drop (at + length piece) b);
      no_longer = omega (arith, size, length-drop (at + length piece) b);
    }

holds_torn : (at : ℕ) (piece b c : List ℕ) → at ≤ length b → Holds at piece b c → Torn at (length piece) b c
holds_torn at piece b c fits holds = subst (λ (l : List ℕ). Torn at (length piece) b l) (sym holds) (whole_torn b at piece fits)

-- ---- calls in a row

-- what a file might have been at a moment, it might have been when the call began, by a step
late : (step : List ℕ → List ℕ → Type 0) {a b : DiskSeen} → ((d : List ℕ) → step d d) → Passes step a b → (d : List ℕ) → b.left b.moment d
    → (a.moment < b.moment) ⊎ (b.moment ≤ a.moment) → (e : List ℕ) × (a.left a.moment e × step e d)
late step {a} {b} none p d left (inl rose) = p.within b.moment d rose (omega arith) left
late step {a} {b} none p d left (inr stood) = (d, (subst (λ (m : ℕ). a.left m d) (omega (arith, p.later, stood)) (p.past b.moment d stood left), none d))

same_two : (step : List ℕ → List ℕ → Type 0) {a b c : DiskSeen} → ((d : List ℕ) → step d d) → Passes step a b → Passes Same b c → (m : ℕ) (x : List ℕ)
    → a.moment < m → m ≤ c.moment → c.left m x → (b.moment < m) ⊎ (m ≤ b.moment) → (d : List ℕ) × (a.left a.moment d × step d x)
same_two step {a} {b} {c} none p q m x behind before left (inl second) =
    let d = q.within m x second before left in
    let e = late step none p d.0 d.1.0 (cases_lt a.moment b.moment) in
    (e.0, (e.1.0, subst (λ (l : List ℕ). step e.0 l) (sym d.1.1) e.1.1))
same_two step {a} {b} {c} none p q m x behind before left (inr first) = p.within m x behind first (q.past m x first left)

-- a call that writes nothing, behind another
pub passes_same : (step : List ℕ → List ℕ → Type 0) {a b c : DiskSeen} → ((d : List ℕ) → step d d) → Passes step a b → Passes Same b c → Passes step a c
passes_same step {a} {b} {c} none p q = record {
  later = omega (arith, p.later, q.later);
  past = λ m x before left. p.past m x before (q.past m x (omega (arith, p.later)) left);
  within = λ m x behind before left. same_two step none p q m x behind before left (cases_lt b.moment m);
}

from_same : (step : List ℕ → List ℕ → Type 0) {p q r : List ℕ → Type 0} → From step p q → From Same q r → From step p r
from_same step f g c told = let x = g c told in let y = f x.0 x.1.0 in (y.0, (y.1.0, subst (λ (l : List ℕ). step y.0 l) (sym x.1.1) y.1.1))

onto_same : (step : List ℕ → List ℕ → Type 0) {p q r : List ℕ → Type 0} → Onto step p q → Onto Same q r → Onto step p r
onto_same step f g b told = let x = f b told in let y = g x.0 x.1.0 in (y.0, (y.1.0, subst (λ (l : List ℕ). step b l) (sym y.1.1) x.1.1))

pub kept_then : {a b c : DiskSeen} → Kept a b → Kept b c → Kept a c
kept_then p q = record {
  bytes = from_same Same p.bytes q.bytes;
  told = onto_same Same p.told q.told;
  size = q.size ∙ p.size;
  passes = passes_same Same (λ d. refl) p.passes q.passes;
}

pub grew_from : {a b c : ℕ} → b ≡ a → Grew 1 b c → Grew 1 a c
grew_from {a} {b} {c} same grew = subst (λ (k : ℕ). Grew 1 k c) same grew

-- a write, and a sync behind it
pub stored : {at : ℕ} {piece : List ℕ} {a b c : DiskSeen} → ((x : List ℕ) → a.bytes x → a.left a.moment x) → HasWritten at piece a b → HasSynced b c → HasStored at piece a c
stored {at} {piece} before w s = record {
  written = record {
    bytes = from_same (Holds at piece) w.bytes s.kept.bytes;
    told = onto_same (Holds at piece) w.told s.kept.told;
    size = s.kept.size ∙ w.size;
    passes = passes_same (Torn at (length piece)) (torn_self at (length piece)) w.passes s.kept.passes;
    faults = s.faults ∙ w.faults;
  };
  sure = s.sure;
  before = before;
}

pub not_stored : {at : ℕ} {piece : List ℕ} {a b c : DiskSeen} → ((x : List ℕ) → a.bytes x → length x ≡ a.size) → at ≤ a.size → HasWritten at piece a b → NotSynced b c
    → NotWritten at (length piece) a c
not_stored {at} {piece} {a} lengths fits w s = record {
  bytes = λ c told.
      let b = from_same (Holds at piece) w.bytes s.kept.bytes c told in
      (b.0, (b.1.0, holds_torn at piece b.0 c (omega (arith, fits, lengths b.0 b.1.0)) b.1.1));
  told = λ b told.
      let c = onto_same (Holds at piece) w.told s.kept.told b told in
      (c.0, (c.1.0, holds_torn at piece b c.0 (omega (arith, fits, lengths b told)) c.1.1));
  no_shorter = omega (arith, w.size, s.kept.size);
  no_longer = omega (arith, w.size, s.kept.size);
  passes = passes_same (Torn at (length piece)) (torn_self at (length piece)) w.passes s.kept.passes;
  faults = grew_from w.faults s.faults;
}

-- ---- what each file has

-- over one call
pub leaves_by : {P Q : List ℕ → Type 0} {step : List ℕ → List ℕ → Type 0} {old new : DiskSeen} → Passes step old new → AllLeft P old
    → ((d c : List ℕ) → P d → step d c → Q c) → Leaves Q old new
leaves_by p all one = record {
  later = p.later;
  past = p.past;
  within = λ m c behind before left. let from = p.within m c behind before left in one from.0 c (all from.0 from.1.0) from.1.1;
}

all_either : {P : List ℕ → Type 0} {step : List ℕ → List ℕ → Type 0} {old new : DiskSeen} → Passes step old new → AllLeft P old
    → ((d c : List ℕ) → P d → step d c → P c) → (c : List ℕ) → new.left new.moment c
    → (old.moment < new.moment) ⊎ (new.moment ≤ old.moment) → P c
all_either {P} {step} {old} {new} p all one c left (inl rose) = let from = p.within new.moment c rose (omega arith) left in one from.0 c (all from.0 from.1.0) from.1.1
all_either {P} {step} {old} {new} p all one c left (inr stood) =
    let here : new.moment ≡ old.moment = omega (arith, p.later, stood) in
    all c (subst (λ (m : ℕ). old.left m c) here (p.past new.moment c stood left))

pub all_by : {P : List ℕ → Type 0} {step : List ℕ → List ℕ → Type 0} {old new : DiskSeen} → Passes step old new → AllLeft P old
    → ((d c : List ℕ) → P d → step d c → P c) → AllLeft P new
all_by {P} {step} {old} {new} p all one c left = all_either p all one c left (cases_lt old.moment new.moment)

-- over two calls
within_two : {Q : List ℕ → Type 0} {a b c : DiskSeen} → Leaves Q a b → Leaves Q b c → (m : ℕ) (x : List ℕ) → a.moment < m → m ≤ c.moment → c.left m x
    → (b.moment < m) ⊎ (m ≤ b.moment) → Q x
within_two p q m x behind before left (inl second) = q.within m x second before left
within_two p q m x behind before left (inr first) = p.within m x behind first (q.past m x first left)

pub leaves_then : {Q : List ℕ → Type 0} {a b c : DiskSeen} → Leaves Q a b → Leaves Q b c → Leaves Q a c
leaves_then {Q} {a} {b} {c} p q = record {
  later = omega (arith, p.later, q.later);
  past = λ m x before left. p.past m x before (q.past m x (omega (arith, p.later)) left);
  within = λ m x behind before left. within_two p q m x behind before left (cases_lt b.moment m);
}

-- what was read before a write that was synced, and what a crash leaves behind it
pub stored_left : (P Q : List ℕ → Type 0) {at : ℕ} {piece : List ℕ} {old new : DiskSeen} → HasStored at piece old new → AllLeft P old
    → ((d c : List ℕ) → P d → Holds at piece d c → Q c) → AllLeft Q new
stored_left P Q s all one c left = let b = s.written.bytes c (s.sure c left) in one b.0 c (all b.0 (s.before b.0 b.1.0)) b.1.1

-- ---- time

pub elapsed : {step : List ℕ → List ℕ → Type 0} {a b : DiskSeen} → Passes step a b → Elapsed a b
elapsed p = record { later = p.later; past = p.past; from = λ m c behind before left. let x = p.within m c behind before left in (x.0, x.1.0) }

at_first : {a b : DiskSeen} → Elapsed a b → (d : List ℕ) → b.left b.moment d → (a.moment < b.moment) ⊎ (b.moment ≤ a.moment) → (e : List ℕ) × a.left a.moment e
at_first {a} {b} t d left (inl rose) = t.from b.moment d rose (omega arith) left
at_first {a} {b} t d left (inr stood) = (d, subst (λ (m : ℕ). a.left m d) (omega (arith, t.later, stood)) (t.past b.moment d stood left))

from_two : {a b c : DiskSeen} → Elapsed a b → Elapsed b c → (m : ℕ) (x : List ℕ) → a.moment < m → m ≤ c.moment → c.left m x
    → (b.moment < m) ⊎ (m ≤ b.moment) → (d : List ℕ) × a.left a.moment d
from_two {a} {b} {c} p q m x behind before left (inl second) = let d = q.from m x second before left in at_first p d.0 d.1 (cases_lt a.moment b.moment)
from_two {a} {b} {c} p q m x behind before left (inr first) = p.from m x behind first (q.past m x first left)

pub elapsed_then : {a b c : DiskSeen} → Elapsed a b → Elapsed b c → Elapsed a c
elapsed_then {a} {b} {c} p q = record {
  later = omega (arith, p.later, q.later);
  past = λ m x before left. p.past m x before (q.past m x (omega (arith, p.later)) left);
  from = λ m x behind before left. from_two p q m x behind before left (cases_lt b.moment m);
}
