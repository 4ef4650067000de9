-- How a walk over options keeps where those of each code stand.
use Rattle.std.proofs.Common.{◌≡◌, ℕ, suc, ◌+◌, ◌<◌, ◌≤◌, true, false, eqb, List, [], ◌∷◌, length, replicate, get_or, set, Ok, refl, sym, ap, subst, ◌∙◌, arith, inl, inr, zero-add, length-append}
use Rattle.std.proofs.Math.Bool.{or-false}
use Rattle.std.proofs.lemmas.List.{get_or-set_same, get_or-set_other, get_or-replicate, get_or_past, length-replicate}
use Rattle.std.specs.Prelude.{IsOk, ◌||◌}
use Rattle.std.proofs.lemmas.Bool.{cases_Bool, cases_eq, cases_lt, or_left, or_right, eqb-true, eq-eqb, ne_eqb}
use Rattle.off_base.specs.Parts.{has, values, parts_in}
use Rattle.off_base.specs.Walk.{all_parts, left, FindsPart, all_values, cursor_at, CursorStands}
use Rattle.off_base.specs.Extents.{asked_codes, place_among, slot_of, no_extent, extended, extent_at, IsExtent, AreExtents}
use Rattle.off_base.specs.declared.index.Extent.{Extent}
use Rattle.off_base.proofs.PartLemmas.{left_none, found_rest, values_on, at_front, counts, stands_at, stands_on}

-- ---- the places of codes

place_at : (codes : List ℕ) (code : ℕ) → place_among codes code < length codes → get_or codes (place_among codes code) 0 ≡ code
place_at [] code within = absurd (omega arith)
place_at (first ∷ codes) code within =
    elim (cases_Bool (eqb code first)) [
      | inl same ↦ rw same (sym (eqb-true code first same))
      | inr other ↦
          let behind : suc (place_among codes code) < suc (length codes) = rw other at within in
          rw other (place_at codes code (omega (arith, behind)))
    ]

place_low : (codes : List ℕ) (code : ℕ) → place_among codes code ≤ length codes
place_low [] code = omega arith
place_low (first ∷ codes) code =
    elim (cases_Bool (eqb code first)) [
      | inl same ↦ rw same (omega arith)
      | inr other ↦ let low = place_low codes code in rw other (omega (arith, low))
    ]

-- two codes that are asked for have two places
pub same_slot : (code other : ℕ) → slot_of code < 8 → slot_of code ≡ slot_of other → code ≡ other
same_slot code other within same =
    sym (place_at asked_codes code within)
    ∙ ap (λ slot. get_or asked_codes slot 0) same
    ∙ place_at asked_codes other (rw same at within)

-- ---- one code

-- what is kept of a code, where the walk has come to a place
pub record Reached (options : List ℕ) (code at : ℕ) (extent : Extent) : Type 0 where
  pub ok : IsOk (left true at options)
  pub there : (extent.is_there || has code (all_parts (left true at options))) ≡ has code (all_parts (parts_in true options))
  pub size : extent.len + length (values code (all_parts (left true at options))) ≡ length (all_values code options)
  pub front : CursorStands options code (cursor_at extent.first 0)
  pub ahead : extent.is_there ≡ false → CursorStands options code (cursor_at at 0)

reached_front : (options : List ℕ) (code : ℕ) → IsOk (parts_in true options) → Reached options code 0 no_extent
reached_front options code ok =
    let none = left_none true options in
    record {
      ok = rw none ok;
      there = ap (λ read. has code (all_parts read)) none;
      size = zero-add _ ∙ ap (λ read. length (values code (all_parts read))) none;
      front = at_front options code ok;
      ahead = λ missing. at_front options code ok;
    }

reached_found : (options : List ℕ) (code at place len : ℕ) (extent : Extent) → Reached options code at extent → FindsPart true options at code place len
    → Reached options code (place + 2 + len) (extended extent place len)
reached_found options code at place len extent reached found =
    let rest = found_rest true options at code place len found reached.ok in
    let shown = values_on code code place len options (all_parts (left true (place + 2 + len) options)) found.within in
    let same : eqb code code ≡ true = eq-eqb code code refl in
    let long : length shown.0 ≡ len = rw same at shown.1 in
    let sizes = length-append shown.0 (values code (all_parts (left true (place + 2 + len) options))) in
    let behind = ap length (ap (values code) rest.1 ∙ shown.2) in
    let size = reached.size in
    let first : has code (all_parts (left true at options)) ≡ true = ap (has code) rest.1 ∙ or_left (eqb code code) _ same in
    record {
      ok = rest.0;
      there = sym (or_right extent.is_there _ first) ∙ reached.there;
      size = omega (arith, long, sizes, behind, size);
      front = elim (cases_Bool extent.is_there) [
        | inl there ↦ rw there reached.front
        | inr missing ↦ rw missing (stands_at options code at 0 code place len (reached.ahead missing) found)
      ];
      ahead = λ missing. cc;
    }

reached_past : (options : List ℕ) (wanted at code place len : ℕ) (extent : Extent) → Reached options wanted at extent → FindsPart true options at code place len
    → eqb code wanted ≡ false → Reached options wanted (place + 2 + len) extent
reached_past options wanted at code place len extent reached found other =
    let rest = found_rest true options at code place len found reached.ok in
    let shown = values_on wanted code place len options (all_parts (left true (place + 2 + len) options)) found.within in
    let none : length shown.0 ≡ 0 = rw other at shown.1 in
    let sizes = length-append shown.0 (values wanted (all_parts (left true (place + 2 + len) options))) in
    let behind = ap length (ap (values wanted) rest.1 ∙ shown.2) in
    let size = reached.size in
    let later : has wanted (all_parts (left true at options)) ≡ has wanted (all_parts (left true (place + 2 + len) options)) = ap (has wanted) rest.1 ∙ rw other refl in
    let nothing : 0 + counts code wanted len ≡ 0 = rw other refl in
    record {
      ok = rest.0;
      there = ap (λ test. extent.is_there || test) (sym later) ∙ reached.there;
      size = omega (arith, none, sizes, behind, size);
      front = reached.front;
      ahead = λ missing. subst (λ before. CursorStands options wanted (cursor_at (place + 2 + len) before)) nothing (stands_on options wanted at 0 code place len (reached.ahead missing) found);
    }

reached_end : (options : List ℕ) (code at : ℕ) (extent : Extent) → Reached options code at extent → left true at options ≡ Ok [] → IsExtent options code extent
reached_end options code at extent reached ended =
    let size = reached.size in
    let nothing : length (values code (all_parts (left true at options))) ≡ 0 = ap (λ read. length (values code (all_parts read))) ended in
    let none : has code (all_parts (left true at options)) ≡ false = ap (λ read. has code (all_parts read)) ended in
    record {
      there = sym (or-false extent.is_there) ∙ ap (λ test. extent.is_there || test) (sym none) ∙ reached.there;
      size = omega (arith, nothing, size);
      front = reached.front;
    }

-- ---- all codes that are asked for

abbrev pub AllReached : List ℕ → ℕ → List Extent → Type 0
AllReached options at extents = (code : ℕ) → slot_of code < 8 → Reached options code at (extent_at extents code)

at_first : (n i : ℕ) → get_or (replicate n no_extent) i no_extent ≡ no_extent
at_first n i =
    elim (cases_lt i n) [
      | inl within ↦ get_or-replicate n i no_extent no_extent within
      | inr past ↦ let size = length-replicate n no_extent in get_or_past (replicate n no_extent) i no_extent (omega (arith, size, past))
    ]

pub all_front : (options : List ℕ) → IsOk (parts_in true options) → AllReached options 0 (replicate 9 no_extent)
all_front options ok code within = rw (at_first 9 (slot_of code)) (reached_front options code ok)

-- one more option
pub all_on : (options : List ℕ) (at code place len : ℕ) (extents : List Extent) → length extents ≡ 9 → AllReached options at extents
    → FindsPart true options at code place len
    → AllReached options (place + 2 + len) (set extents (slot_of code) (extended (extent_at extents code) place len))
all_on options at code place len extents nine reached found wanted within =
    elim (cases_eq (slot_of wanted) (slot_of code)) [
      | inl same ↦
          let is : wanted ≡ code = same_slot wanted code within same in
          let low = place_low asked_codes code in
          let inside : slot_of code < length extents = omega (arith, nine, low) in
          let here = reached_found options code at place len (extent_at extents code) (subst (λ c. Reached options c at (extent_at extents c)) is (reached wanted within)) found in
          rw (is, get_or-set_same extents (slot_of code) (extended (extent_at extents code) place len) no_extent inside) here
      | inr apart ↦
          let other : eqb code wanted ≡ false = ne_eqb code wanted (λ is. apart (ap slot_of (sym is))) in
          rw (get_or-set_other extents (slot_of code) (slot_of wanted) (extended (extent_at extents code) place len) no_extent apart)
          (reached_past options wanted at code place len (extent_at extents wanted) (reached wanted within) found other)
    ]

pub all_end : (options : List ℕ) (at : ℕ) (extents : List Extent) → AllReached options at extents → left true at options ≡ Ok [] → AreExtents options extents
all_end options at extents reached ended code within = reached_end options code at (extent_at extents code) (reached code within) ended

-- ---- no extent has more bytes than were gone over

abbrev pub FewBytes : ℕ → List Extent → Type 0
FewBytes at extents = (slot : ℕ) → (get_or extents slot no_extent).len ≤ at

pub few_first : FewBytes 0 (replicate 9 no_extent)
few_first slot = rw (at_first 9 slot) (omega arith)

pub few_on : (at code place len : ℕ) (extents : List Extent) → length extents ≡ 9 → FewBytes at extents → at ≤ place
    → FewBytes (place + 2 + len) (set extents (slot_of code) (extended (extent_at extents code) place len))
few_on at code place len extents nine few ahead slot =
    elim (cases_eq slot (slot_of code)) [
      | inl same ↦
          let low = place_low asked_codes code in
          let inside : slot_of code < length extents = omega (arith, nine, low) in
          let before = few (slot_of code) in
          rw (same, get_or-set_same extents (slot_of code) (extended (extent_at extents code) place len) no_extent inside) (omega (arith, before, ahead))
      | inr apart ↦
          let before = few slot in
          rw (get_or-set_other extents (slot_of code) slot (extended (extent_at extents code) place len) no_extent apart) (omega (arith, before, ahead))
    ]
