-- Bytes stand for one list of payloads, and which.
use Rattle.std.proofs.Common.{◌≡◌, ◌≢◌, ℕ, ◌<◌, ◌≤◌, ◌⊎◌, inl, inr, List, [], ◌∷◌, ◌++◌}
use Rattle.std.proofs.Common.{length, refl, sym, ap, subst, ◌∙◌, arith, append_assoc, append-nil}
use Rattle.std.proofs.Common.{length-append}
use Rattle.std.specs.Int.{to_be_bytes, w32}
use Rattle.std.proofs.lemmas.Bool.{cases_lt}
use Rattle.off_disk.specs.Records.{record_of, blocks, IsShort, AreShort, IsOpen, Stands, IsClosed}
use Rattle.off_disk.specs.Records.{IsDoubtful, IsBroken}
use Rattle.off_base.proofs.ByteLemmas.{same_parts, heads, tails, same_word}

parts_one : (h k p q x y : List ℕ) → length h ≡ length k → (h ≡ k → length p ≡ length q)
    → (h ++ p) ++ x ≡ (k ++ q) ++ y → (p ≡ q) × (x ≡ y)
parts_one h k p q x y long same e =
    let heads = same_parts h k (p ++ x) (q ++ y) long
    (sym (append_assoc h p x) ∙ (e ∙ append_assoc k q y)) in
    same_parts p q x y (same heads.0) heads.1

-- a gate is open to one record
pub open_one : {bytes p q x y : List ℕ} → IsOpen bytes p x → IsOpen bytes q y → (p ≡ q) × (x ≡ y)
open_one {bytes} {p} {q} {x} {y} a b =
    parts_one (to_be_bytes w32 (length p)) (to_be_bytes w32 (length q)) p q x y refl
    (λ heads. same_word (length p) (length q) a.short b.short heads)
    (tails 1 1 (record_of p ++ x) (record_of q ++ y) (sym a.is ∙ b.is))

pub stands_one : (bytes : List ℕ) (ps qs : List (List ℕ)) → Stands bytes ps → Stands bytes qs
    → ps ≡ qs
stands_one bytes [] [] s t = refl
stands_one bytes [] (q ∷ qs) s t = absurd (s q t.0 t.1.0)
stands_one bytes (p ∷ ps) [] s t = absurd (t p s.0 s.1.0)
stands_one bytes (p ∷ ps) (q ∷ qs) s t =
    let same = open_one s.1.0 t.1.0 in
    let rest : ps ≡ qs = stands_one s.0 ps qs s.1.1
    (subst (λ (b : List ℕ). Stands b qs) (sym same.1) t.1.1) in
    λ i. same.0 i ∷ rest i

-- records behind open gates, and what stands behind them
pub stands_behind : (ps qs : List (List ℕ)) (tail : List ℕ) → AreShort ps → 0 < length tail
    → Stands tail qs → Stands (blocks ps ++ tail) (ps ++ qs)
stands_behind [] qs tail short gate s = s
stands_behind (p ∷ ps) qs tail short gate s = (
  blocks ps ++ tail,
  (
    record {
      is = ap (λ (b : List ℕ). 1 ∷ b) (append_assoc (record_of p) (blocks ps) tail);
      short = short.0;
      gate = omega (arith, length-append (blocks ps) tail);
    },
    stands_behind ps qs tail short.1 gate s,
  ),
)

pub shut_stands : (gate : ℕ) (rest : List ℕ) → gate ≢ 1 → Stands (gate ∷ rest) []
shut_stands gate rest shut payload tail opened =
    shut (heads gate 1 rest (record_of payload ++ tail) opened.is)

pub closed_stands : (ps : List (List ℕ)) (c : List ℕ) → AreShort ps → IsClosed ps c → Stands c ps
closed_stands ps c short closed =
    subst (λ (b : List ℕ). Stands b ps) (sym closed.is)
    (subst (λ (qs : List (List ℕ)). Stands (blocks ps ++ closed.gate ∷ closed.rest) qs)
    (append-nil ps)
    (stands_behind ps [] (closed.gate ∷ closed.rest) short (omega arith)
    (shut_stands closed.gate closed.rest closed.shut)))

one_stands : (p rest : List ℕ) → IsShort p → Stands (1 ∷ (record_of p ++ 0 ∷ rest)) (p ∷ [])
one_stands p rest short = (
  0 ∷ rest,
  (
    record { is = refl; short = short; gate = omega arith },
    shut_stands 0 rest (λ e. absurd (omega (arith, e))),
  ),
)

above : (n : ℕ) → (n < 2) ⊎ (2 ≤ n) → 1 ≤ n → (n ≡ 1) ⊎ (n ≢ 1)
above n (inl few) some = inl (omega arith)
above n (inr many) some = inr (λ e. absurd (omega (arith, e, many)))

one_or : (n : ℕ) → (n < 1) ⊎ (1 ≤ n) → (n ≡ 1) ⊎ (n ≢ 1)
one_or n (inl none) = inr (λ e. absurd (omega (arith, e, none)))
one_or n (inr some) = above n (cases_lt n 2) some

pub is_one : (n : ℕ) → (n ≡ 1) ⊎ (n ≢ 1)
is_one n = one_or n (cases_lt n 1)

doubtful_either : (ps : List (List ℕ)) (p c : List ℕ) → AreShort ps → IsShort p
    → (d : IsDoubtful ps p c) → (d.gate ≡ 1) ⊎ (d.gate ≢ 1) → Stands c ps ⊎ Stands c (ps ++ p ∷ [])
doubtful_either ps p c short one d (inl opened) =
    inr (subst (λ (b : List ℕ). Stands b (ps ++ p ∷ [])) (sym d.is)
    (stands_behind ps (p ∷ []) (d.gate ∷ (record_of p ++ 0 ∷ d.rest)) short (omega arith)
    (subst (λ (g : ℕ). Stands (g ∷ (record_of p ++ 0 ∷ d.rest)) (p ∷ [])) (sym opened)
    (one_stands p d.rest one))))
doubtful_either ps p c short one d (inr shut) =
    inl (closed_stands ps c short
    (record { gate = d.gate; rest = record_of p ++ 0 ∷ d.rest; is = d.is; shut = shut }))

pub doubtful_stands : (ps : List (List ℕ)) (p c : List ℕ) → AreShort ps → IsShort p
    → IsDoubtful ps p c → Stands c ps ⊎ Stands c (ps ++ p ∷ [])
doubtful_stands ps p c short one d = doubtful_either ps p c short one d (is_one d.gate)

broken_last : (gate : ℕ) (rest : List ℕ)
    → ((payload tail : List ℕ) → IsOpen (1 ∷ rest) payload tail → ⊥) → (gate ≡ 1) ⊎ (gate ≢ 1)
    → Stands (gate ∷ rest) []
broken_last gate rest none (inl one) = subst (λ (g : ℕ). Stands (g ∷ rest) []) (sym one) none
broken_last gate rest none (inr shut) = shut_stands gate rest shut

pub broken_stands : (ps : List (List ℕ)) (c : List ℕ) → AreShort ps → IsBroken ps c → Stands c ps
broken_stands ps c short broken =
    subst (λ (b : List ℕ). Stands b ps) (sym broken.is)
    (subst (λ (qs : List (List ℕ)). Stands (blocks ps ++ broken.gate ∷ broken.rest) qs)
    (append-nil ps)
    (stands_behind ps [] (broken.gate ∷ broken.rest) short (omega arith)
    (broken_last broken.gate broken.rest broken.none (is_one broken.gate))))
