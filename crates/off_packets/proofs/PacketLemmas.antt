-- Texts that are ended by zero bytes, one after another; and the two bytes in front of a packet.
use Rattle.std.proofs.Common.{◌≡◌, ℕ, suc, ◌+◌, ◌-◌, ◌<◌, ◌≤◌, cond, not, ◌&&◌, ltb, true, false, List, [], ◌∷◌, length, take, drop, Option, Some, None, Result, Ok, Err, MatchResult, refl, sym, ap, ◌∙◌, subst, arith, length-drop}
use Rattle.std.specs.List.{slice_split, onto_first, position, position_or_len, before_first, after_first, count_by, list_all}
use Rattle.std.specs.Int.{is_in_range}
use Rattle.std.specs.Str.{all_ascii_digits}
use Rattle.std.proofs.lemmas.Bool.{ltb-true, ltb-false, le-ltb, lt-ltb}
use Rattle.std.proofs.lemmas.List.{take_all}
use Rattle.std.proofs.lemmas.List.Splits.{slice_split_first, length-slice_split}
use Rattle.off_packets.specs.Packets.{Meant, packet_limit, packet_of, short_packet_of, packet_by, is_zero, all_but_last, ended_texts}
use Rattle.off_packets.specs.declared.faults.PacketFault.{PacketFault}
use Rattle.off_packets.specs.declared.faults.PacketFault.TheVariants as fault
use Rattle.off_packets.specs.Pieces.{IsNumbered}

more_behind : (n : ℕ) (x : List ℕ) (xs : List (List ℕ)) → length xs ≡ n + 1 → all_but_last (x ∷ xs) ≡ x ∷ all_but_last xs
more_behind n x [] e = absurd (omega (arith, e))
more_behind n x (y ∷ ys) e =
    let more : suc (suc (length ys)) - 1 ≡ suc (suc (length ys) - 1) = omega arith in
    ap (λ m. take m (x ∷ y ∷ ys)) more

texts_first : (bytes : List ℕ) → position_or_len is_zero bytes < length bytes → ended_texts bytes ≡ before_first is_zero bytes ∷ ended_texts (after_first is_zero bytes)
texts_first bytes there =
    ap all_but_last (slice_split_first is_zero bytes 0 there)
    ∙ more_behind (count_by is_zero (after_first is_zero bytes)) _ (slice_split is_zero (after_first is_zero bytes)) (length-slice_split is_zero (after_first is_zero bytes))

alone : (bytes : List ℕ) → length bytes ≤ position_or_len is_zero bytes → slice_split is_zero bytes ≡ bytes ∷ []
alone [] none = refl
alone (x ∷ bytes) none =
    elim (is_zero x) as (λ b. suc (length bytes) ≤ cond (not b) (1 + position_or_len is_zero bytes) 0 → cond b ([] ∷ slice_split is_zero bytes) (onto_first x (slice_split is_zero bytes)) ≡ (x ∷ bytes) ∷ []) [
      | true ↦ λ none. absurd (omega (arith, none))
      | false ↦ λ none. ap (onto_first x) (alone bytes (omega (arith, none)))
    ] none

-- a place that was found, and none
found_by : (a b n : ℕ) → Some n ≡ cond (ltb a b) (Some a) None → (a ≡ n) × (a < b)
found_by a b n is =
    elim (ltb a b) as (λ t. ltb a b ≡ t → Some n ≡ cond t (Some a) None → (a ≡ n) × (a < b)) [
      | true ↦ λ t is. (cc, ltb-true a b t)
      | false ↦ λ t is. cc
    ] refl is

missed_by : (a b : ℕ) → None ≡ cond (ltb a b) (Some a) None → b ≤ a
missed_by a b is =
    elim (ltb a b) as (λ t. ltb a b ≡ t → ◌≡◌ {A = Option ℕ} None (cond t (Some a) None) → b ≤ a) [
      | true ↦ λ t is. cc
      | false ↦ λ t is. ltb-false a b t
    ] refl is

rest_whole : (bytes : List ℕ) (n : ℕ) → take (length bytes - n) (drop n bytes) ≡ drop n bytes
rest_whole bytes n = take_all (length bytes - n) (drop n bytes) (omega (arith, length-drop n bytes))

abbrev rest_behind : List ℕ → ℕ → List ℕ
rest_behind bytes place = take (length bytes - (place + 1)) (drop (place + 1) bytes)

cut_first : (bytes : List ℕ) (place : ℕ) → (position_or_len is_zero bytes ≡ place) × (position_or_len is_zero bytes < length bytes)
    → (ended_texts bytes ≡ take place bytes ∷ ended_texts (rest_behind bytes place)) × (length (rest_behind bytes place) < length bytes)
cut_first bytes place at =
    let whole = rest_whole bytes (place + 1) in
    let shorter : length (drop (place + 1) bytes) < length bytes = omega (arith, length-drop (place + 1) bytes, at.0, at.1) in (
      texts_first bytes at.1 ∙ ap (λ (n : ℕ). take n bytes ∷ ended_texts (drop (n + 1) bytes)) at.0 ∙ ap (λ (r : List ℕ). take place bytes ∷ ended_texts r) (sym whole),
      subst (λ (r : List ℕ). length r < length bytes) (sym whole) shorter,
    )

pub text_is_cut : (bytes : List ℕ) (place : ℕ) → Some place ≡ position is_zero bytes
    → (ended_texts bytes ≡ take place bytes ∷ ended_texts (rest_behind bytes place)) × (length (rest_behind bytes place) < length bytes)
text_is_cut bytes place is = cut_first bytes place (found_by (position_or_len is_zero bytes) (length bytes) place is)

pub no_text : (bytes : List ℕ) → None ≡ position is_zero bytes → ended_texts bytes ≡ []
no_text bytes is = ap all_but_last (alone bytes (missed_by (position_or_len is_zero bytes) (length bytes) is))

-- ---- digits, one by one

pub digits_are : (text : List ℕ) → list_all (is_in_range 48 57) text ≡ all_ascii_digits text
digits_are [] = refl
digits_are (c ∷ text) = ap (λ b. is_in_range 48 57 c && b) (digits_are text)

-- ---- packets

pub too_long : (bytes : List ℕ) → 1500 < length bytes → packet_of bytes ≡ Err fault.Form
unfolding packet_of
too_long bytes long = ap (λ b. cond b (Err fault.Form) (short_packet_of bytes)) (lt-ltb packet_limit (length bytes) long)

fits_by : (bytes : List ℕ) → length bytes ≤ 1500 → packet_of bytes ≡ short_packet_of bytes
unfolding packet_of
fits_by bytes fits = ap (λ b. cond b (Err fault.Form) (short_packet_of bytes)) (le-ltb packet_limit (length bytes) fits)

pub too_short : (bytes : List ℕ) → length bytes < 2 → packet_of bytes ≡ Err fault.Form
too_short [] short = fits_by [] (omega arith)
too_short (x ∷ []) short = fits_by (x ∷ []) (omega arith)
too_short (x ∷ y ∷ bytes) short = absurd (omega (arith, short))

packet_is : (bytes : List ℕ) (code : ℕ) (rest : List ℕ) → length bytes ≤ 1500 → IsNumbered bytes code rest → packet_of bytes ≡ packet_by code rest
packet_is bytes code rest fits is = fits_by bytes fits ∙ ap short_packet_of is.spells ∙ ap (λ (n : ℕ). packet_by n rest) (sym is.value)

pub read_whole : {P : Type 0} (bytes : List ℕ) (code : ℕ) (rest : List ℕ) (result : Result P PacketFault) (meant : P → Meant) → length bytes ≤ 1500 → IsNumbered bytes code rest
    → MatchResult result (λ p. packet_by code rest ≡ Ok (meant p)) (λ f. packet_by code rest ≡ Err f)
    → MatchResult result (λ p. packet_of bytes ≡ Ok (meant p)) (λ f. packet_of bytes ≡ Err f)
read_whole bytes code rest result meant fits is read =
    subst (λ (m : Result Meant PacketFault). MatchResult result (λ p. m ≡ Ok (meant p)) (λ f. m ≡ Err f)) (sym (packet_is bytes code rest fits is)) read
