-- The name for which a read request asks stands in its bytes, behind the two that tell its kind.
use Rattle.std.proofs.Common.{◌≡◌, ℕ, zero, suc, ◌+◌, ◌-◌, ◌≤◌, ◌==◌, Bool, true, false, cond, List, [], ◌∷◌, length, take, drop, Ok, Err, refl, ap, subst, arith}
use Rattle.std.specs.List.{slice_split, onto_first}
use Rattle.std.specs.Str.{str_eq_ignore_ascii_case}
use Rattle.std.proofs.Math.Dec.{ltb}
use Rattle.std.specs.Prelude.{codes}
use Rattle.off_packets.specs.Packets.{Reads, Writes, GivesUp, IsOther, is_zero, ended_texts, request_of, options_asked, acknowledgement_of, packet_limit, short_packet_of, packet_of, two_byte_number}
use Rattle.off_packets.specs.declared.packets.Options.{Options}
use Rattle.off_packets.specs.declared.faults.PacketFault.TheVariants as fault

-- a text is the front of the bytes
record Begins (text bytes : List ℕ) : Type 0 where
  is : text ≡ take (length text) bytes
  within : length text ≤ length bytes

-- ---- the first piece between zeros is the front

first_by : (x : ℕ) (xs first : List ℕ) (others parts : List (List ℕ)) (b : Bool) → ((p : List ℕ) (ps : List (List ℕ)) → parts ≡ p ∷ ps → Begins p xs)
    → cond b ([] ∷ parts) (onto_first x parts) ≡ first ∷ others → Begins first (x ∷ xs)
first_by x xs first others parts true inner e = let none : [] ≡ first = cc in subst (λ (f : List ℕ). Begins f (x ∷ xs)) none (record { is = refl; within = omega arith })
first_by x xs first others [] false inner e = let one : x ∷ [] ≡ first = cc in subst (λ (f : List ℕ). Begins f (x ∷ xs)) one (record { is = refl; within = omega arith })
first_by x xs first others (p ∷ ps) false inner e =
    let more : x ∷ p ≡ first = cc in
    let rest = inner p ps refl in
    subst (λ (f : List ℕ). Begins f (x ∷ xs)) more (record { is = ap (λ (l : List ℕ). x ∷ l) rest.is; within = omega (arith, rest.within) })

first_part : (xs first : List ℕ) (others : List (List ℕ)) → slice_split is_zero xs ≡ first ∷ others → Begins first xs
first_part [] first others e = let none : [] ≡ first = cc in subst (λ (f : List ℕ). Begins f []) none (record { is = refl; within = omega arith })
first_part (x ∷ xs) first others e = first_by x xs first others (slice_split is_zero xs) (x == 0) (λ p ps is. first_part xs p ps is) e

-- ---- and so is the first text of a request

taken : (n : ℕ) (parts : List (List ℕ)) (first : List ℕ) (rest : List (List ℕ)) → take n parts ≡ first ∷ rest → (others : List (List ℕ)) × (parts ≡ first ∷ others)
taken zero parts first rest e = cc
taken (suc n) [] first rest e = cc
taken (suc n) (p ∷ ps) first rest e = let same : p ≡ first = cc in (ps, ap (λ (q : List ℕ). q ∷ ps) same)

asked_by : (octet : Bool) (name other : List ℕ) (asked options : Options) → cond octet (Ok (Reads name asked)) (Err fault.Mode) ≡ Ok (Reads other options) → name ≡ other
asked_by true name other asked options e = cc
asked_by false name other asked options e = cc

request_name : (texts : List (List ℕ)) (name : List ℕ) (options : Options) → request_of texts ≡ Ok (Reads name options) → (rest : List (List ℕ)) × (texts ≡ name ∷ rest)
request_name [] name options e = cc
request_name (one ∷ []) name options e = cc
request_name (one ∷ mode ∷ texts) name options e =
    let same = asked_by (str_eq_ignore_ascii_case mode (codes "octet")) one name (options_asked texts) options e in
    (mode ∷ texts, ap (λ (n : List ℕ). n ∷ mode ∷ texts) same)

text_begins : (bytes name : List ℕ) (options : Options) → request_of (ended_texts bytes) ≡ Ok (Reads name options) → Begins name bytes
text_begins bytes name options e =
    let texts = request_name (ended_texts bytes) name options e in
    let parts = taken (length (slice_split is_zero bytes) - 1) (slice_split is_zero bytes) name texts.0 texts.1 in
    first_part bytes name parts.0 parts.1

no_request : (bytes name : List ℕ) (options : Options) → acknowledgement_of bytes ≡ Ok (Reads name options) → Begins name bytes
no_request [] name options e = cc
no_request (one ∷ []) name options e = cc
no_request (high ∷ low ∷ rest) name options e = cc

by_kind : (bytes name : List ℕ) (options : Options) (first second fourth fifth : Bool)
    → cond first (request_of (ended_texts bytes)) (cond second (Ok Writes) (cond fourth (acknowledgement_of bytes) (cond fifth (Ok GivesUp) (Ok IsOther)))) ≡ Ok (Reads name options) → Begins name bytes
by_kind bytes name options true second fourth fifth e = text_begins bytes name options e
by_kind bytes name options false true fourth fifth e = cc
by_kind bytes name options false false true fifth e = no_request bytes name options e
by_kind bytes name options false false false true e = cc
by_kind bytes name options false false false false e = cc

pub record StandsAt (name bytes : List ℕ) : Type 0 where
  pub is : name ≡ take (length name) (drop 2 bytes)
  pub within : 2 + length name ≤ length bytes

short_name : (bytes name : List ℕ) (options : Options) → short_packet_of bytes ≡ Ok (Reads name options) → StandsAt name bytes
short_name [] name options e = cc
short_name (one ∷ []) name options e = cc
short_name (high ∷ low ∷ rest) name options e =
    let code = two_byte_number high low in
    let begins = by_kind rest name options (code == 1) (code == 2) (code == 4) (code == 5) e in
    record { is = begins.is; within = omega (arith, begins.within) }

by_length : (long : Bool) (bytes name : List ℕ) (options : Options) → cond long (Err fault.Form) (short_packet_of bytes) ≡ Ok (Reads name options) → StandsAt name bytes
by_length true bytes name options e = cc
by_length false bytes name options e = short_name bytes name options e

pub name_stands : (bytes name : List ℕ) (options : Options) → packet_of bytes ≡ Ok (Reads name options) → StandsAt name bytes
unfolding packet_of
name_stands bytes name options e = by_length (ltb packet_limit (length bytes)) bytes name options e
