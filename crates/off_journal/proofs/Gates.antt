-- What the bytes behind a gate are.
use Rattle.std.proofs.Common.{◌≡◌, ◌≢◌, ℕ, ◌+◌, ◌<◌, ◌≤◌, ◌^◌, List, [], ◌∷◌, ◌++◌, length, take, drop, refl, sym, ap, subst, ◌∙◌, arith, append_assoc, length-append, length-drop, take-append-drop, ◌-◌}
use Rattle.std.specs.Int.{to_be_bytes, w32}
use Rattle.std.proofs.lemmas.List.{drop-drop}
use Rattle.off_base.proofs.ByteLemmas.{same_parts, tails, same_word}
use Rattle.off_disk.specs.Records.{record_of, IsOpen}
use Rattle.off_journal.specs.declared.begin.Gate.TheVariants.{Shut, Broken}
use Rattle.off_disk.specs.DiskSeen.{DiskSeen}
use Rattle.off_disk.specs.DiskCalls.{HasRead}
use Rattle.off_journal.specs.Begin.{GateAt, HasLooked, IsNotOne}
use Rattle.off_journal.proofs.Opening.{Lengths}

split : (n : ℕ) (rest front : List ℕ) → front ≡ take n rest → rest ≡ front ++ drop n rest
split n rest front e = sym (take-append-drop n rest) ∙ ap (λ (l : List ℕ). l ++ drop n rest) (sym e)

pub look_shut : (n : ℕ) (rest front : List ℕ) (x : ℕ) → x ∷ front ≡ take n rest → x ≢ 1 → GateAt Shut rest
look_shut n rest front x e shut = (x, (front ++ drop n rest, (split n rest (x ∷ front) e, shut)))

-- too few bytes for a record
pub look_short : (n : ℕ) (rest front : List ℕ) (x : ℕ) → x ∷ front ≡ take n rest → x ≡ 1 → length rest < 6 → GateAt Broken rest
look_short n rest front x e one few = (
  front ++ drop n rest,
  (
    split n rest (x ∷ front) e ∙ ap (λ (g : ℕ). g ∷ (front ++ drop n rest)) one,
    λ payload tail opened. absurd (omega (arith, few, ap length opened.is, length-append payload tail, opened.gate)),
  ),
)

no_room : (rest head more payload tail : List ℕ) (len : ℕ) → rest ≡ 1 ∷ (head ++ more) → IsOpen rest payload tail → len < 2 ^ 32 → to_be_bytes w32 len ≡ head → length rest ≤ len + 5 → ⊥
no_room rest head more payload tail len whole opened fits is few =
    let inner : (to_be_bytes w32 (length payload) ++ payload) ++ tail ≡ head ++ more = tails 1 1 (record_of payload ++ tail) (head ++ more) (sym opened.is ∙ whole) in
    let four : length (to_be_bytes w32 (length payload)) ≡ length head = ap length is in
    let both = same_parts (to_be_bytes w32 (length payload)) head (payload ++ tail) more four (sym (append_assoc (to_be_bytes w32 (length payload)) payload tail) ∙ inner) in
    let same : length payload ≡ len = same_word (length payload) len opened.short fits (both.0 ∙ sym is) in
    absurd (omega (arith, same, few, ap length opened.is, length-append payload tail, opened.gate))

-- a record of this length would not fit
pub look_broken : (rest head : List ℕ) (x len : ℕ) → x ∷ head ≡ take 5 rest → x ≡ 1 → len < 2 ^ 32 → to_be_bytes w32 len ≡ head → length rest ≤ len + 5 → GateAt Broken rest
look_broken rest head x len e one fits is few =
    let whole : rest ≡ 1 ∷ (head ++ drop 5 rest) = split 5 rest (x ∷ head) e ∙ ap (λ (g : ℕ). g ∷ (head ++ drop 5 rest)) one in
    (head ++ drop 5 rest, (whole, λ payload tail opened. no_room rest head (drop 5 rest) payload tail len whole opened fits is few))

pub look_open : (rest head payload : List ℕ) (x len : ℕ) → x ∷ head ≡ take 5 rest → x ≡ 1 → len < 2 ^ 32 → to_be_bytes w32 len ≡ head → len + 5 < length rest
    → payload ≡ take len (drop 5 rest) → length payload ≡ len → (tail : List ℕ) × IsOpen rest payload tail
look_open rest head payload x len e one fits is many held long =
    let whole : rest ≡ 1 ∷ (head ++ drop 5 rest) = split 5 rest (x ∷ head) e ∙ ap (λ (g : ℕ). g ∷ (head ++ drop 5 rest)) one in
    let inner : drop 5 rest ≡ payload ++ drop len (drop 5 rest) = split len (drop 5 rest) payload held in
    let heads : head ≡ to_be_bytes w32 (length payload) = sym is ∙ ap (λ (n : ℕ). to_be_bytes w32 n) (sym long) in
    let joined : head ++ drop 5 rest ≡ record_of payload ++ drop len (drop 5 rest) =
    ap (λ (l : List ℕ). head ++ l) inner ∙ (ap (λ (h : List ℕ). h ++ (payload ++ drop len (drop 5 rest))) heads
    ∙ sym (append_assoc (to_be_bytes w32 (length payload)) payload (drop len (drop 5 rest)))) in
    let size : length rest ≡ 5 + (length payload + length (drop len (drop 5 rest))) =
    ap length whole ∙ omega (arith, ap length joined, length-append payload (drop len (drop 5 rest))) in (
      drop len (drop 5 rest),
      record {
        is = whole ∙ ap (λ (l : List ℕ). 1 ∷ l) joined;
        short = omega (arith, fits, long);
        gate = omega (arith, size, many, long);
      },
    )

-- ---- on a disk

left_size : (disk : DiskSeen) (gate : ℕ) (b : List ℕ) → Lengths disk → disk.bytes b → length (drop gate b) ≡ disk.size - gate
left_size disk gate b lengths told = length-drop gate b ∙ ap (λ (n : ℕ). n - gate) (lengths b told)

pub looked_shut : (gate : ℕ) (out : List ℕ) (d0 d1 : DiskSeen) → HasRead gate out d0 d1 → IsNotOne out → HasLooked Shut gate d0 d1
looked_shut gate out d0 d1 r not = record {
  kept = r.kept;
  faults = r.faults;
  within = tt;
  at = λ b told. look_shut (length out) (drop gate b) not.1.0 not.0 (sym not.1.1.0 ∙ r.gives b told) not.1.1.1;
}

pub looked_short : (gate : ℕ) (out : List ℕ) (d0 d1 : DiskSeen) → Lengths d0 → HasRead gate out d0 d1 → out ≡ 1 ∷ [] → d0.size - gate < 5 → HasLooked Broken gate d0 d1
looked_short gate out d0 d1 lengths r is few = record {
  kept = r.kept;
  faults = r.faults;
  within = tt;
  at = λ b told. look_short (length out) (drop gate b) [] 1 (sym is ∙ r.gives b told) refl (omega (arith, few, left_size d0 gate b lengths told));
}

head_five : (out : List ℕ) (len : ℕ) → out ≡ 1 ∷ to_be_bytes w32 len → length out ≡ 5
head_five out len is = ap length is

pub looked_broken : (gate len : ℕ) (out : List ℕ) (d0 d1 : DiskSeen) → Lengths d0 → HasRead gate out d0 d1 → len < 2 ^ 32 → out ≡ 1 ∷ to_be_bytes w32 len
    → d0.size - gate ≤ len + 5 → HasLooked Broken gate d0 d1
looked_broken gate len out d0 d1 lengths r fits is few = record {
  kept = r.kept;
  faults = r.faults;
  within = tt;
  at = λ b told. look_broken (drop gate b) (to_be_bytes w32 len) 1 len
      (sym is ∙ (r.gives b told ∙ ap (λ (n : ℕ). take n (drop gate b)) (head_five out len is))) refl fits refl (omega (arith, few, left_size d0 gate b lengths told));
}

-- the file behind the header
drop_twice : (gate : ℕ) (b : List ℕ) → drop (gate + 5) b ≡ drop 5 (drop gate b)
drop_twice gate b = sym (drop-drop 5 gate b)

pub looked_open : (gate len : ℕ) (out payload : List ℕ) (d0 d1 d2 : DiskSeen) → Lengths d0 → HasRead gate out d0 d1 → len < 2 ^ 32 → out ≡ 1 ∷ to_be_bytes w32 len
    → len + 5 < d0.size - gate → HasRead (gate + 5) payload d1 d2 → length payload ≡ len → (b : List ℕ) → d0.bytes b → (tail : List ℕ) × IsOpen (drop gate b) payload tail
looked_open gate len out payload d0 d1 d2 lengths r fits is many q long b told =
    let x = r.kept.told b told in
    let here : d1.bytes b = subst (λ (l : List ℕ). d1.bytes l) x.1.1 x.1.0 in
    look_open (drop gate b) (to_be_bytes w32 len) payload 1 len
    (sym is ∙ (r.gives b told ∙ ap (λ (n : ℕ). take n (drop gate b)) (head_five out len is))) refl fits refl (omega (arith, many, left_size d0 gate b lengths told))
    (q.gives b here ∙ (ap (λ (n : ℕ). take n (drop (gate + 5) b)) long ∙ ap (λ (l : List ℕ). take len l) (drop_twice gate b))) long
