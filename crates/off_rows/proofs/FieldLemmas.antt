-- Fields at the front of bytes.
use Rattle.std.proofs.Common.{◌≡◌, ◌≢◌, ℕ, ◌+◌, ◌<◌, ◌≤◌, ◌^◌, List, [], ◌++◌, length, drop, refl, sym, ap, ◌∙◌, arith, append-nil, append_assoc, length-append, length-drop, Bool, true, false, subst, Result, Err, MatchBool}
use Rattle.std.specs.Int.{to_be_bytes, from_be_bytes, w16}
use Rattle.std.proofs.lemmas.Nat.{from_be_bytes-to_be_bytes_2}
use Rattle.off_base.specs.Tree.{spelling}
use Rattle.off_tlv.specs.Fault.{IsFirstFault}
use Rattle.off_tlv.specs.declared.faults.ReadFault.{ReadFault}
use Rattle.off_tlv.specs.declared.faults.ReadFault.TheVariants.{NoEnd}
use Rattle.off_base.proofs.ByteLemmas.{same_parts}
use Rattle.off_rows.specs.Left.{Left}
use Rattle.off_rows.specs.BadRow.{bytes_of}
use Rattle.off_rows.specs.Reading.{TakesField, FieldFails, FailsSpelled, IsSettings, TakesSpelled}
use Rattle.off_rows.specs.declared.faults.RowErr.{RowErr}
use Rattle.off_rows.specs.declared.faults.RowErr.TheVariants.{BadRow}

-- something is left before the end
pub drop_some : (n : ℕ) (xs : List ℕ) → n < length xs → drop n xs ≡ [] → ⊥
drop_some n xs h e = let none = ap length e in omega (arith, length-drop n xs)

-- two lengths in two bytes are one where their bytes are
pub same_length : (n m : ℕ) → n < 2 ^ 16 → m < 2 ^ 16 → to_be_bytes w16 n ≡ to_be_bytes w16 m → n ≡ m
same_length n m p q e = sym (from_be_bytes-to_be_bytes_2 n p) ∙ (ap (from_be_bytes w16) e ∙ from_be_bytes-to_be_bytes_2 m q)

-- the length is cut
pub length_cut : {old : Left} {err : RowErr} → FieldFails (bytes_of 2) old err → FailsSpelled old err
length_cut f = record {
  place = f.place;
  none = λ held rest short e. f.none (to_be_bytes w16 (length held)) (held ++ rest) refl (e ∙ append_assoc (to_be_bytes w16 (length held)) held rest);
}

-- what stands behind the length is cut
pub held_cut : (old mid : Left) (n : ℕ) → n < 2 ^ 16 → TakesField (bytes_of 2) (to_be_bytes w16 n) old mid → length mid.rest < n → FailsSpelled old (BadRow old.place)
held_cut old mid n small t cut = record {
  place = refl;
  none = λ held rest short e.
      let both = same_parts (to_be_bytes w16 n) (to_be_bytes w16 (length held)) mid.rest (held ++ rest) refl (sym t.front ∙ (e ∙ append_assoc (to_be_bytes w16 (length held)) held rest)) in
      let long = same_length n (length held) small (omega arith) both.0 in
      let all = ap length both.1 in
      omega (arith, length-append held rest);
}

-- both are there
pub held_taken : (old mid new : Left) (n : ℕ) (held : List ℕ) → n < 2 ^ 16 → TakesField (bytes_of 2) (to_be_bytes w16 n) old mid → length held ≡ n → mid.rest ≡ held ++ new.rest → new.place ≡ mid.place + n → (length held ≤ 65535) × TakesSpelled held old new
held_taken old mid new n held small t long front onward =
    let same : to_be_bytes w16 n ≡ to_be_bytes w16 (length held) = ap (to_be_bytes w16) (sym long) in (
      omega arith,
      record {
        front = t.front ∙ (ap (λ (x : List ℕ). to_be_bytes w16 n ++ x) front ∙ (ap (λ (x : List ℕ). x ++ (held ++ new.rest)) same ∙ sym (append_assoc (to_be_bytes w16 (length held)) held new.rest)));
        onward = let first = t.onward in omega arith;
      },
    )

-- settings that spell the bytes, against the faults of a file of them
pub settings_no_end : (bytes : List ℕ) → IsFirstFault bytes NoEnd → IsSettings bytes
settings_no_end bytes f = record { trees = f.1.before; stand = f.1.stand; whole = f.1.whole ∙ append-nil (spelling f.1.before) }

pub no_end_settings : (bytes : List ℕ) → IsSettings bytes → IsFirstFault bytes NoEnd
no_end_settings bytes s =
    (length (spelling s.trees), record { before = s.trees; stand = s.stand; whole = s.whole ∙ sym (append-nil (spelling s.trees)); here = refl })

-- two results that are one
abbrev Same : ReadFault → ReadFault → Type 0
Same fault other = let one : Result ℕ ReadFault = Err fault in one ≡ Err other

-- what the first fault of a file of the bytes says of settings
pub settings_by_fault : (bytes : List ℕ) (fault : ReadFault) (b : Bool) → IsFirstFault bytes fault → ((other : ReadFault) → IsFirstFault bytes other → Same fault other) → MatchBool b (fault ≡ NoEnd) (fault ≢ NoEnd) → MatchBool b (IsSettings bytes) (¬ IsSettings bytes)
settings_by_fault bytes fault true found first e = settings_no_end bytes (subst (IsFirstFault bytes) e found)
settings_by_fault bytes fault false found first n = λ s. let e = first NoEnd (no_end_settings bytes s) in n cc

-- what a length in two bytes and so many bytes need
pub ruleset spelled_rules = (length_cut, held_cut, held_taken)
