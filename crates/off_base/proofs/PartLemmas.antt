-- How a reading of parts goes on, part by part, and that it is what the grammar says.
use Rattle.std.proofs.Common.{◌≡◌, ℕ, zero, suc, ◌+◌, ◌<◌, ◌≤◌, Bool, true, false, cond, eqb, leb, List, [], ◌∷◌, ◌++◌, length, take, drop, get_or, Result, Ok, Err, refl, sym, ap, ◌∙◌, arith, inl, inr, add-zero, drop-cons, length-drop, length-append}
use Rattle.std.proofs.Math.Nat.{le_refl}
use Rattle.std.proofs.Math.Seq.{take-append_seam, drop-append_seam}
use Rattle.std.proofs.lemmas.List.{drop-drop, drop_all, take-append-drop, length-take-le, get_or-drop, get_or-take}
use Rattle.std.proofs.Math.ListN.{get_or-append}
use Rattle.std.specs.Prelude.{MatchResult, IsOk, is_some}
use Rattle.std.specs.Result.{result_err}
use Rattle.std.proofs.lemmas.Bool.{both_ways, and_parts, cases_Bool, or_parts, cases_lt, eqb-true, le-leb, lt-leb, ne_eqb, eq-eqb}
use Rattle.off_base.specs.Parts.{Part, has, values, joined, bytes_of, IsCode, Spells, Cut, IsReading, onto, is_mark, parts_from, parts_in}
use Rattle.off_base.specs.Parts.Spells.{spells_nothing, spells_end, spells_pad, spells_part}
use Rattle.off_base.specs.Parts.Cut.{cut_length, cut_value, cut_behind_pad, cut_behind_part}
use Rattle.off_base.specs.Walk.{all_parts, left, Finds, FindsPart, all_values, cursor_at, CursorStands, Shows}
use Rattle.off_base.specs.declared.parts.Step.{Step}
use Rattle.off_base.specs.declared.parts.Step.TheVariants.{Found, End, Cut as Cuts}

-- bytes that belong to the part before are passed over
skipped : (m : Bool) (here k : ℕ) (bs : List ℕ) → k ≤ length bs → parts_from m here k bs ≡ parts_from m (here + k) 0 (drop k bs)
skipped m here zero bs le = ap (λ h. parts_from m h 0 bs) (sym (add-zero here))
skipped m here (suc k) [] le = absurd (omega arith)
skipped m here (suc k) (b ∷ bs) le =
    let at : here + 1 + k ≡ here + suc k = omega arith in
    skipped m (here + 1) k bs (omega arith) ∙ ap (λ h. parts_from m h 0 (drop k bs)) at

-- ---- what stands at a code

pub pad_first : (m : Bool) (at b : ℕ) (bs : List ℕ) → is_mark m 0 b ≡ true → parts_from m at 0 (b ∷ bs) ≡ parts_from m (at + 1) 0 bs
pad_first m at b bs pad = rw pad refl

pub end_first : (m : Bool) (at b : ℕ) (bs : List ℕ) → is_mark m 0 b ≡ false → is_mark m 255 b ≡ true → parts_from m at 0 (b ∷ bs) ≡ Ok []
end_first m at b bs no_pad ends = rw (no_pad, ends) refl

pub bare_first : (m : Bool) (at b : ℕ) → is_mark m 0 b ≡ false → is_mark m 255 b ≡ false → parts_from m at 0 (b ∷ []) ≡ Err at
bare_first m at b no_pad no_end = rw (no_pad, no_end) refl

pub cut_first : (m : Bool) (at b n : ℕ) (bs : List ℕ) → is_mark m 0 b ≡ false → is_mark m 255 b ≡ false → length bs < n
    → parts_from m at 0 (b ∷ n ∷ bs) ≡ Err at
cut_first m at b n bs no_pad no_end over =
    let test : leb n (length bs) ≡ false = lt-leb n (length bs) over in
    rw (no_pad, no_end, test) refl

pub part_first : (m : Bool) (at b n : ℕ) (bs : List ℕ) → is_mark m 0 b ≡ false → is_mark m 255 b ≡ false → n ≤ length bs
    → parts_from m at 0 (b ∷ n ∷ bs) ≡ onto (record { code = b; place = at; value = take n bs }) (parts_from m (at + 2 + n) 0 (drop n bs))
part_first m at b n bs no_pad no_end fits =
    let test : leb n (length bs) ≡ true = le-leb n (length bs) fits in
    let place : at + 1 + 1 + n ≡ at + 2 + n = omega arith in
    let behind = skipped m (at + 1 + 1) n bs fits ∙ ap (λ h. parts_from m h 0 (drop n bs)) place in
    rw (no_pad, no_end, test) (ap (onto (record { code = b; place = at; value = take n bs })) behind)

-- ---- at a place of a slice

two_at : (bytes : List ℕ) (at : ℕ) → at + 1 < length bytes
    → drop at bytes ≡ get_or bytes at 0 ∷ get_or bytes (at + 1) 0 ∷ drop (at + 2) bytes
two_at bytes at more =
    let next : suc at < length bytes = omega arith in
    let one : at + 1 ≡ suc at = omega arith in
    let two : at + 2 ≡ suc (suc at) = omega arith in
    drop-cons bytes at 0 (omega arith) ∙ ap (λ rest. get_or bytes at 0 ∷ rest) (drop-cons bytes (suc at) 0 next ∙ rw (one, two) refl)

pub left_pad : (m : Bool) (bytes : List ℕ) (at : ℕ) → at < length bytes → is_mark m 0 (get_or bytes at 0) ≡ true
    → left m at bytes ≡ left m (at + 1) bytes
left_pad m bytes at more pad =
    let one : at + 1 ≡ suc at = omega arith in
    ap (parts_from m at 0) (drop-cons bytes at 0 more) ∙ pad_first m at (get_or bytes at 0) (drop (suc at) bytes) pad ∙ rw one refl

pub left_end : (m : Bool) (bytes : List ℕ) (at : ℕ) → at < length bytes → is_mark m 0 (get_or bytes at 0) ≡ false
    → is_mark m 255 (get_or bytes at 0) ≡ true → left m at bytes ≡ Ok []
left_end m bytes at more no_pad ends =
    ap (parts_from m at 0) (drop-cons bytes at 0 more) ∙ end_first m at (get_or bytes at 0) (drop (suc at) bytes) no_pad ends

pub left_bare : (m : Bool) (bytes : List ℕ) (at : ℕ) → at + 1 ≡ length bytes → is_mark m 0 (get_or bytes at 0) ≡ false
    → is_mark m 255 (get_or bytes at 0) ≡ false → left m at bytes ≡ Err at
left_bare m bytes at last no_pad no_end =
    let none : drop (suc at) bytes ≡ [] = drop_all (suc at) bytes (omega arith) in
    ap (parts_from m at 0) (drop-cons bytes at 0 (omega arith) ∙ ap (λ rest. get_or bytes at 0 ∷ rest) none)
    ∙ bare_first m at (get_or bytes at 0) no_pad no_end

pub left_cut : (m : Bool) (bytes : List ℕ) (at : ℕ) → at + 1 < length bytes → is_mark m 0 (get_or bytes at 0) ≡ false
    → is_mark m 255 (get_or bytes at 0) ≡ false → length bytes < at + 2 + get_or bytes (at + 1) 0 → left m at bytes ≡ Err at
left_cut m bytes at more no_pad no_end over =
    let rest = length-drop (at + 2) bytes in
    ap (parts_from m at 0) (two_at bytes at more)
    ∙ cut_first m at (get_or bytes at 0) (get_or bytes (at + 1) 0) (drop (at + 2) bytes) no_pad no_end (omega arith)

pub left_part : (m : Bool) (bytes : List ℕ) (at : ℕ) → at + 1 < length bytes → is_mark m 0 (get_or bytes at 0) ≡ false
    → is_mark m 255 (get_or bytes at 0) ≡ false → at + 2 + get_or bytes (at + 1) 0 ≤ length bytes
    → FindsPart m bytes at (get_or bytes at 0) at (get_or bytes (at + 1) 0)
left_part m bytes at more no_pad no_end fits =
    let rest = length-drop (at + 2) bytes in
    let len = get_or bytes (at + 1) 0 in
    record {
      ahead = omega arith;
      within = fits;
      here = refl;
      first = ap (parts_from m at 0) (two_at bytes at more)
          ∙ part_first m at (get_or bytes at 0) (get_or bytes (at + 1) 0) (drop (at + 2) bytes) no_pad no_end (omega arith)
          ∙ ap (λ rest. onto (record { code = get_or bytes at 0; place = at; value = take len (drop (at + 2) bytes) }) (parts_from m (at + 2 + len) 0 rest)) (drop-drop len (at + 2) bytes);
    }

-- what a step finds behind pads it finds in front of them
pub finds_from : (m : Bool) (bytes : List ℕ) (from at : ℕ) (step : Step) → from ≤ at → left m from bytes ≡ left m at bytes
    → Finds m bytes at step → Finds m bytes from step
finds_from m bytes from at (Found code place len) le same finds = record {
  ahead = (let ahead = finds.ahead in omega arith);
  within = finds.within;
  here = same ∙ finds.here;
  first = same ∙ finds.first;
}
finds_from m bytes from at End le same finds = same ∙ finds
finds_from m bytes from at (Cuts place) le same finds = same ∙ finds

-- ---- the grammar

code_ok : (m : Bool) (b : ℕ) → is_mark m 0 b ≡ false → is_mark m 255 b ≡ false → IsCode m b
code_ok true b no_pad no_end = (λ e. both_ways _ no_pad (eq-eqb b 0 e), λ e. both_ways _ no_end (eq-eqb b 255 e))
code_ok false b no_pad no_end = tt

code_no_pad : (m : Bool) (b : ℕ) → IsCode m b → is_mark m 0 b ≡ false
code_no_pad true b ok = ne_eqb b 0 ok.0
code_no_pad false b ok = refl

code_no_end : (m : Bool) (b : ℕ) → IsCode m b → is_mark m 255 b ≡ false
code_no_end true b ok = ne_eqb b 255 ok.1
code_no_end false b ok = refl

-- what the grammar says of bytes from a place on
abbrev Says : Bool → ℕ → List ℕ → Result (List Part) ℕ → Type 0
Says m here bytes read = MatchResult read (λ parts. Spells m here parts bytes) (λ place. Cut m here place bytes)

says_pad : (m : Bool) (here : ℕ) (bytes : List ℕ) (read : Result (List Part) ℕ) → m ≡ true → Says m (here + 1) bytes read → Says m here (0 ∷ bytes) read
says_pad m here bytes (Ok parts) marked says = spells_pad here parts bytes marked says
says_pad m here bytes (Err place) marked says = cut_behind_pad here place bytes marked says

says_part : (m : Bool) (here code : ℕ) (value bytes : List ℕ) (read : Result (List Part) ℕ) → IsCode m code
    → Says m (here + 2 + length value) bytes read
    → Says m here (code ∷ length value ∷ (value ++ bytes)) (onto (record { code = code; place = here; value = value }) read)
says_part m here code value bytes (Ok parts) ok says = spells_part here code value parts bytes ok says
says_part m here code value bytes (Err place) ok says = cut_behind_part here place code value bytes ok says

behind_code : (bound : ℕ) (m : Bool) (here b : ℕ) (bytes : List ℕ) → is_mark m 0 b ≡ false → is_mark m 255 b ≡ false → length bytes ≤ bound
    → ((h : ℕ) (bs : List ℕ) → length bs ≤ bound → Says m h bs (parts_from m h 0 bs))
    → Says m here (b ∷ bytes) (parts_from m here 0 (b ∷ bytes))
behind_code bound m here b [] no_pad no_end few more = rw (bare_first m here b no_pad no_end) (cut_length here b (code_ok m b no_pad no_end))
behind_code bound m here b (len ∷ bytes) no_pad no_end few more =
    let ok = code_ok m b no_pad no_end in
    elim (cases_lt (length bytes) len) [
      | inl over ↦ rw (cut_first m here b len bytes no_pad no_end over) (cut_value here b len bytes ok over)
      | inr fits ↦
          let value = take len bytes in
          let long : length (take len bytes) ≡ len = length-take-le len bytes fits in
          let whole : take len bytes ++ drop len bytes ≡ bytes = take-append-drop len bytes in
          let short = length-drop len bytes in
          let rest = more (here + 2 + len) (drop len bytes) (omega arith) in
          let says = says_part m here b (take len bytes) (drop len bytes) (parts_from m (here + 2 + len) 0 (drop len bytes)) ok (rw long rest) in
          rw (part_first m here b len bytes no_pad no_end fits) (rw (long, whole) at says)
    ]

-- by induction on a bound of the length
says_all : (bound : ℕ) (m : Bool) (here : ℕ) (bytes : List ℕ) → length bytes ≤ bound → Says m here bytes (parts_from m here 0 bytes)
says_all bound m here [] few = spells_nothing here
says_all zero m here (b ∷ bytes) few = absurd (omega arith)
says_all (suc bound) m here (b ∷ bytes) few =
    elim (cases_Bool (is_mark m 0 b)) [
      | inl pad ↦
          let parts = and_parts m (eqb b 0) pad in
          let zero_ : b ≡ 0 = eqb-true b 0 parts.1 in
          let rest = says_all bound m (here + 1) bytes (omega arith) in
          rw (pad_first m here b bytes pad, zero_) (says_pad m here bytes _ parts.0 rest)
      | inr no_pad ↦ elim (cases_Bool (is_mark m 255 b)) [
        | inl ends ↦
            let parts = and_parts m (eqb b 255) ends in
            let last : b ≡ 255 = eqb-true b 255 parts.1 in
            rw (end_first m here b bytes no_pad ends, last) (spells_end here bytes parts.0)
        | inr no_end ↦ behind_code bound m here b bytes no_pad no_end (omega arith) (λ h bs le. says_all bound m h bs le)
      ]
    ]

-- the grammar says one thing only

onto_ok : (m : Bool) (here code : ℕ) (value bytes : List ℕ) → IsCode m code
    → parts_from m here 0 (code ∷ length value ∷ (value ++ bytes)) ≡ onto (record { code = code; place = here; value = value }) (parts_from m (here + 2 + length value) 0 bytes)
onto_ok m here code value bytes ok =
    let long = length-append value bytes in
    part_first m here code (length value) (value ++ bytes) (code_no_pad m code ok) (code_no_end m code ok) (omega arith)
    ∙ rw (take-append_seam value bytes, drop-append_seam value bytes) refl

pub only_parts : (m : Bool) (here : ℕ) (parts : List Part) (bytes : List ℕ) → Spells m here parts bytes → parts_from m here 0 bytes ≡ Ok parts
only_parts m _ _ _ (spells_nothing here) = refl
only_parts m _ _ _ (spells_end here ignored marked) = rw marked refl
only_parts m _ _ _ (spells_pad here parts bytes marked rest) =
    pad_first m here 0 bytes (rw marked refl) ∙ only_parts m (here + 1) parts bytes rest
only_parts m _ _ _ (spells_part here code value parts bytes ok rest) =
    onto_ok m here code value bytes ok ∙ ap (onto (record { code = code; place = here; value = value })) (only_parts m (here + 2 + length value) parts bytes rest)

pub only_place : (m : Bool) (here place : ℕ) (bytes : List ℕ) → Cut m here place bytes → parts_from m here 0 bytes ≡ Err place
only_place m _ _ _ (cut_length here code ok) = bare_first m here code (code_no_pad m code ok) (code_no_end m code ok)
only_place m _ _ _ (cut_value here code len value ok over) = cut_first m here code len value (code_no_pad m code ok) (code_no_end m code ok) over
only_place m _ _ _ (cut_behind_pad here place bytes marked rest) =
    pad_first m here 0 bytes (rw marked refl) ∙ only_place m (here + 1) place bytes rest
only_place m _ _ _ (cut_behind_part here place code value bytes ok rest) =
    onto_ok m here code value bytes ok ∙ ap (onto (record { code = code; place = here; value = value })) (only_place m (here + 2 + length value) place bytes rest)

pub is_reading : (m : Bool) (bytes : List ℕ) → IsReading m bytes (parts_in m bytes)
unfolding parts_in
is_reading m bytes = record {
  said = says_all (length bytes) m 0 bytes (le_refl (length bytes));
  only_parts = λ parts spells. only_parts m 0 parts bytes spells;
  only_place = λ place cut. only_place m 0 place bytes cut;
}

-- ---- loops over parts

pub left_none : (m : Bool) (bytes : List ℕ) → left m 0 bytes ≡ parts_in m bytes
unfolding parts_in
left_none m bytes = refl

onto_is_ok : (part : Part) (read : Result (List Part) ℕ) → IsOk (onto part read) → IsOk read × (all_parts (onto part read) ≡ part ∷ all_parts read)
onto_is_ok part (Ok parts) ok = (refl, refl)
onto_is_ok part (Err place) ok = cc

result_err-onto : (part : Part) (read : Result (List Part) ℕ) → result_err (onto part read) ≡ result_err read
result_err-onto part (Ok parts) = refl
result_err-onto part (Err place) = refl

-- behind a part that was found
pub found_rest : (m : Bool) (bytes : List ℕ) (at code place len : ℕ) → FindsPart m bytes at code place len → IsOk (left m at bytes)
    → IsOk (left m (place + 2 + len) bytes)
    × (all_parts (left m at bytes) ≡ record { code = code; place = place; value = take len (drop (place + 2) bytes) } ∷ all_parts (left m (place + 2 + len) bytes))
found_rest m bytes at code place len found ok =
    let both = onto_is_ok _ (left m (place + 2 + len) bytes) (rw found.first at ok) in
    (both.0, rw found.first both.1)

pub found_err : (m : Bool) (bytes : List ℕ) (at code place len : ℕ) → FindsPart m bytes at code place len
    → result_err (left m at bytes) ≡ result_err (left m (place + 2 + len) bytes)
found_err m bytes at code place len found = ap result_err found.first ∙ result_err-onto _ (left m (place + 2 + len) bytes)

-- ---- joined values

values_none : (wanted : ℕ) (parts : List Part) → has wanted parts ≡ false → values wanted parts ≡ []
values_none wanted [] none = refl
values_none wanted (part ∷ parts) none =
    let both = or_parts (eqb part.code wanted) (has wanted parts) none in
    rw both.0 (values_none wanted parts both.1)

pub bytes_of-joined : (wanted : ℕ) (read : Result (List Part) ℕ) → bytes_of (joined wanted read) ≡ values wanted (all_parts read)
bytes_of-joined wanted (Err place) = refl
bytes_of-joined wanted (Ok parts) =
    elim (cases_Bool (has wanted parts)) [
      | inl there ↦ rw there refl
      | inr none ↦ rw none (sym (values_none wanted parts none))
    ]

pub is_some-joined : (wanted : ℕ) (read : Result (List Part) ℕ) → is_some (joined wanted read) ≡ has wanted (all_parts read)
is_some-joined wanted (Err place) = refl
is_some-joined wanted (Ok parts) =
    elim (cases_Bool (has wanted parts)) [
      | inl there ↦ rw there refl
      | inr none ↦ rw none refl
    ]

-- ---- a cursor among options

pub at_front : (options : List ℕ) (code : ℕ) → IsOk (parts_in true options) → CursorStands options code (cursor_at 0 0)
unfolding parts_in
at_front options code ok = record { within = omega arith; ok = ok; few = omega arith; rest = refl }

-- how many bytes of a part count
abbrev pub counts : ℕ → ℕ → ℕ → ℕ
counts code wanted len = cond (eqb code wanted) len 0

pub values_on : (wanted code place len : ℕ) (options : List ℕ) (rest : List Part) → place + 2 + len ≤ length options
    → (shown : List ℕ) × (length shown ≡ counts code wanted len) × (values wanted (record { code = code; place = place; value = take len (drop (place + 2) options) } ∷ rest) ≡ shown ++ values wanted rest)
values_on wanted code place len options rest within =
    elim (cases_Bool (eqb code wanted)) [
      | inl same ↦
          let size = length-drop (place + 2) options in
          (take len (drop (place + 2) options), rw same (length-take-le len (drop (place + 2) options) (omega arith)), rw same refl)
      | inr other ↦ ([], rw other refl, rw other refl)
    ]

-- the cursor goes over pads to the code
pub stands_at : (options : List ℕ) (wanted at before code place len : ℕ) → CursorStands options wanted (cursor_at at before)
    → FindsPart true options at code place len → CursorStands options wanted (cursor_at place before)
stands_at options wanted at before code place len stands found =
    let inside = found.within in
    record {
      within = omega (arith, inside);
      ok = rw found.here at stands.ok;
      few = stands.few;
      rest = ap (λ read. values wanted (all_parts read)) (sym found.here) ∙ stands.rest;
    }

-- an option of the code has the joined bytes from the cursor's on
pub shows_at : (options : List ℕ) (wanted at before code place len : ℕ) → CursorStands options wanted (cursor_at at before)
    → FindsPart true options at code place len → code ≡ wanted → Shows options wanted (record { cursor = cursor_at place before; len = len })
shows_at options wanted at before code place len stands found same =
    let inside = found.within in
    let rest = found_rest true options at code place len found stands.ok in
    let test : eqb code wanted ≡ true = eq-eqb code wanted same in
    let value = take len (drop (place + 2) options) in
    let behind = values wanted (all_parts (left true (place + 2 + len) options)) in
    let first : values wanted (record { code = code; place = place; value = take len (drop (place + 2) options) } ∷ all_parts (left true (place + 2 + len) options))
    ≡ take len (drop (place + 2) options) ++ values wanted (all_parts (left true (place + 2 + len) options)) = rw test refl in
    let all : drop before (all_values wanted options) ≡ take len (drop (place + 2) options) ++ behind = sym stands.rest ∙ ap (values wanted) rest.1 ∙ first in
    let size = length-drop (place + 2) options in
    let long : length (take len (drop (place + 2) options)) ≡ len = length-take-le len (drop (place + 2) options) (omega (arith, size, inside)) in
    record {
      stands = stands_at options wanted at before code place len stands found;
      within = λ i near. omega (arith, inside, near);
      bytes = λ i near.
          let here : i < length (take len (drop (place + 2) options)) = omega (arith, long, near) in
          sym (sym (get_or-drop before (all_values wanted options) i 0)
          ∙ ap (λ bytes. get_or bytes i 0) all
          ∙ get_or-append value behind 0 i here
          ∙ get_or-take len (drop (place + 2) options) i 0 near
          ∙ get_or-drop (place + 2) options i 0);
    }

-- behind an option that doesn't have the byte
pub stands_on : (options : List ℕ) (wanted at before code place len : ℕ) → CursorStands options wanted (cursor_at at before)
    → FindsPart true options at code place len → CursorStands options wanted (cursor_at (place + 2 + len) (before + counts code wanted len))
stands_on options wanted at before code place len stands found =
    let rest = found_rest true options at code place len found stands.ok in
    let shown = values_on wanted code place len options (all_parts (left true (place + 2 + len) options)) found.within in
    let behind = values wanted (all_parts (left true (place + 2 + len) options)) in
    let all : drop before (all_values wanted options) ≡ shown.0 ++ behind = sym stands.rest ∙ ap (values wanted) rest.1 ∙ shown.2 in
    let size = ap length all in
    let sizes = length-append shown.0 behind in
    let dropped = length-drop before (all_values wanted options) in
    let few = stands.few in
    let long = shown.1 in
    let seam : drop (length shown.0) (shown.0 ++ behind) ≡ behind = drop-append_seam shown.0 behind in
    record {
      within = found.within;
      ok = rest.0;
      few = omega arith;
      rest = sym (sym (drop-drop (counts code wanted len) before (all_values wanted options)) ∙ ap (drop (counts code wanted len)) all ∙ ap (λ n. drop n (shown.0 ++ behind)) (sym long) ∙ seam);
    }

-- behind the last option there is no byte left
pub none_left : (options : List ℕ) (wanted at before i : ℕ) → CursorStands options wanted (cursor_at at before) → left true at options ≡ Ok []
    → before ≤ i → i < length (all_values wanted options) → ⊥
none_left options wanted at before i stands ended behind within =
    let none : [] ≡ drop before (all_values wanted options) = ap (λ read. values wanted (all_parts read)) (sym ended) ∙ stands.rest in
    let size = ap length none in
    let dropped = length-drop before (all_values wanted options) in
    omega arith
