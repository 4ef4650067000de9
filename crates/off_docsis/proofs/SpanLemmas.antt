-- That a part of a reading lies in the bytes, and what the calls find of it.
use Rattle.std.proofs.Common.{◌≡◌, ℕ, ◌+◌, Bool, true, false, List, [], ◌∷◌, ◌++◌, length, take, drop, Some, None, Result, Ok, Err, refl, sym, ap, subst, ◌∙◌, arith, append_assoc, length-append, eqb, inl, inr}
use Rattle.std.specs.Prelude.{if◌then◌else◌}
use Rattle.std.proofs.lemmas.Bool.{cases_Bool, true≢false}
use Rattle.std.specs.List.{AllByRecursion}
use Rattle.std.proofs.Math.Seq.{take-append_seam, drop-append_seam}
use Rattle.std.proofs.lemmas.List.{drop-drop}
use Rattle.off_base.specs.Parts.{Part, Spells, IsReading, onto}
use Rattle.off_base.specs.Parts.Spells.{spells_nothing, spells_end, spells_pad, spells_part}
use Rattle.off_docsis.specs.declared.spans.Codes.{Codes}
use Rattle.off_docsis.specs.declared.spans.PartCut.{PartCut}
use Rattle.off_docsis.specs.declared.spans.Span.{Span}
use Rattle.off_docsis.specs.declared.spans.Spans.{Spans}
use Rattle.off_docsis.specs.Spans.{spans_of, spans_in, span_with, spans_with}
use Rattle.off_docsis.specs.Cable.{Shows, ShowsDevice, ShowsRelay, span_at, span_of, first_of, relay_of, device_of}

-- the part's value lies there
abbrev pub Lies : List ℕ → Part → Type 0
Lies bytes part = Shows bytes (span_at (Some part)) (Some part)

lies_first : (front bytes value : List ℕ) (code : ℕ) → Lies (front ++ code ∷ length value ∷ (value ++ bytes)) (record { code = code; place = length front; value = value })
lies_first front bytes value code =
    let whole = front ++ code ∷ length value ∷ (value ++ bytes) in
    let sizes = length-append front (code ∷ length value ∷ (value ++ bytes)) in
    let behind = length-append value bytes in
    let cut : drop (length front + 2) whole ≡ value ++ bytes =
    sym (drop-drop 2 (length front) whole) ∙ ap (drop 2) (drop-append_seam front (code ∷ length value ∷ (value ++ bytes))) in
    (refl, omega arith, ap (take (length value)) cut ∙ take-append_seam value bytes)

-- bytes of which the first stands behind a front
all_lie : (m : Bool) (here : ℕ) (front : List ℕ) (parts : List Part) (bytes : List ℕ) → here ≡ length front → Spells m here parts bytes
    → AllByRecursion (Lies (front ++ bytes)) parts
all_lie m _ front _ _ at (spells_nothing here) = tt
all_lie m _ front _ _ at (spells_end here ignored marked) = tt
all_lie m _ front _ _ at (spells_pad here parts bytes marked rest) =
    let size = length-append front (0 ∷ []) in
    subst (λ (xs : List ℕ). AllByRecursion (Lies xs) parts) (append_assoc front (0 ∷ []) bytes) (all_lie m (here + 1) (front ++ 0 ∷ []) parts bytes (omega arith) rest)
all_lie m _ front _ _ at (spells_part here code value parts bytes ok rest) =
    let head = code ∷ length value ∷ value in
    let size = length-append front head in (
      rw at (lies_first front bytes value code),
      subst (λ (xs : List ℕ). AllByRecursion (Lies xs) parts) (append_assoc front head bytes) (all_lie m (here + 2 + length value) (front ++ head) parts bytes (omega arith) rest),
    )

found_shows : (bytes : List ℕ) (code : ℕ) (parts : List Part) → AllByRecursion (Lies bytes) parts → Shows bytes (span_of code parts) (first_of code parts)
found_shows bytes code [] all = refl
found_shows bytes code (part ∷ parts) all =
    elim (cases_Bool (eqb part.code code)) [
      | inl same ↦ rw same all.0
      | inr other ↦ rw other (found_shows bytes code parts all.1)
    ]

-- what a walk finds of each of three codes
pub spans_shown : (bytes : List ℕ) (wanted : Codes) (parts : List Part) → AllByRecursion (Lies bytes) parts
    → Shows bytes (span_of wanted.first parts) (first_of wanted.first parts) × Shows bytes (span_of wanted.second parts) (first_of wanted.second parts) × Shows bytes (span_of wanted.third parts) (first_of wanted.third parts)
spans_shown bytes wanted parts all = (found_shows bytes wanted.first parts all, found_shows bytes wanted.second parts all, found_shows bytes wanted.third parts all)

abbrev pub of_device : Codes
of_device = record { first = 2; second = 4; third = 6 }

abbrev pub of_relay : Codes
of_relay = record { first = 1; second = 2; third = 2 }

pub device_shows : (bytes : List ℕ) (read : Result (List Part) ℕ) (found : Spans) → IsReading true bytes read → Ok found ≡ spans_in of_device read
    → ShowsDevice bytes (record { kind = found.first; serial = found.second; software = found.third }) read
device_shows bytes (Ok parts) found reading is =
    let all = all_lie true 0 [] parts bytes refl reading.said in
    let same : found ≡ spans_of of_device parts = cc in
    rw same (spans_shown bytes of_device parts all)
device_shows bytes (Err place) found reading is = cc

pub relay_shows : (bytes : List ℕ) (read : Result (List Part) ℕ) (found : Spans) → IsReading false bytes read → Ok found ≡ spans_in of_relay read
    → ShowsRelay bytes (record { circuit = found.first; remote = found.second }) read
relay_shows bytes (Ok parts) found reading is =
    let all = all_lie false 0 [] parts bytes refl reading.said in
    let same : found ≡ spans_of of_relay parts = cc in
    let shown = spans_shown bytes of_relay parts all in
    rw same (shown.0, shown.1)
relay_shows bytes (Err place) found reading is = cc

-- ---- the parts that a call looks for, as its definition has them

pub relay_err : (read : Result (List Part) ℕ) (cut : PartCut) → Err cut ≡ spans_in of_relay read → Err cut ≡ relay_of read
unfolding relay_of
relay_err (Ok parts) cut is = cc
relay_err (Err place) cut is = cc

pub relay_ok : (read : Result (List Part) ℕ) (found : Spans) → Ok found ≡ spans_in of_relay read → Ok (record { circuit = found.first; remote = found.second }) ≡ relay_of read
unfolding relay_of
relay_ok (Ok parts) found is = let same : found ≡ spans_of of_relay parts = cc in rw same refl
relay_ok (Err place) found is = cc

pub device_err : (read : Result (List Part) ℕ) (cut : PartCut) → Err cut ≡ spans_in of_device read → Err cut ≡ device_of read
unfolding device_of
device_err (Ok parts) cut is = cc
device_err (Err place) cut is = cc

pub device_ok : (read : Result (List Part) ℕ) (found : Spans) → Ok found ≡ spans_in of_device read
    → Ok (record { kind = found.first; serial = found.second; software = found.third }) ≡ device_of read
unfolding device_of
device_ok (Ok parts) found is = let same : found ≡ spans_of of_device parts = cc in rw same refl
device_ok (Err place) found is = cc

-- ---- the walk

-- the span that was found before, or else the one behind
abbrev pub span_before : Span → Span → Span
span_before span behind = if span.there then span else behind

abbrev pub spans_before : Spans → Result Spans PartCut → Result Spans PartCut
spans_before spans (Ok behind) =
    Ok (record { first = span_before spans.first behind.first; second = span_before spans.second behind.second; third = span_before spans.third behind.third })
spans_before spans (Err cut) = Err cut

abbrev pub no_spans : Spans
no_spans = record { first = span_at None; second = span_at None; third = span_at None }

pub no_part_yet : (read : Result Spans PartCut) → spans_before no_spans read ≡ read
no_part_yet (Ok spans) = refl
no_part_yet (Err cut) = refl

-- a span that isn't there has its other numbers 0
abbrev pub IsPlain : Span → Type 0
IsPlain span = span.there ≡ false → (span.at ≡ 0) × (span.len ≡ 0)

one_with : (span : Span) (code wanted place : ℕ) (value : List ℕ) (parts : List Part)
    → span_before (span_with span (eqb code wanted) (place + 2) (length value)) (span_of wanted parts)
    ≡ span_before span (span_of wanted (record { code = code; place = place; value = value } ∷ parts))
one_with span code wanted place value parts =
    elim (cases_Bool span.there) [
      | inl there ↦ rw there refl
      | inr none ↦
          elim (cases_Bool (eqb code wanted)) [
            | inl same ↦ rw (none, same) refl
            | inr other ↦ rw (none, other) refl
          ]
    ]

pub plain_with : (span : Span) (wanted : Bool) (at len : ℕ) → IsPlain span → IsPlain (span_with span wanted at len)
plain_with span true at len plain =
    elim (cases_Bool span.there) [
      | inl there ↦ rw there (λ (absent : true ≡ false). absurd (true≢false absent))
      | inr none ↦ rw none (λ (absent : true ≡ false). absurd (true≢false absent))
    ]
plain_with span false at len plain =
    elim (cases_Bool span.there) [
      | inl there ↦ rw there (λ (absent : true ≡ false). absurd (true≢false absent))
      | inr none ↦ rw none (λ _. plain none)
    ]

-- a step of the walk, by a part that stands first in what is left
pub walk_step : (spans : Spans) (wanted : Codes) (code place : ℕ) (value : List ℕ) (read : Result (List Part) ℕ)
    → spans_before (spans_with spans wanted code (place + 2) (length value)) (spans_in wanted read)
    ≡ spans_before spans (spans_in wanted (onto (record { code = code; place = place; value = value }) read))
walk_step spans wanted code place value (Ok parts) =
    rw (one_with spans.first code wanted.first place value parts, one_with spans.second code wanted.second place value parts, one_with spans.third code wanted.third place value parts) refl
walk_step spans wanted code place value (Err cut) = refl

one_end : (span : Span) → IsPlain span → span_before span (span_at None) ≡ span
one_end span plain =
    elim (cases_Bool span.there) [
      | inl there ↦ rw there refl
      | inr none ↦ let zeros = plain none in rw (none, zeros.0, zeros.1) refl
    ]

-- its end, where nothing is left
pub walk_end : (spans : Spans) (wanted : Codes) → IsPlain spans.first → IsPlain spans.second → IsPlain spans.third → spans_before spans (spans_in wanted (Ok [])) ≡ Ok spans
walk_end spans wanted first second third = rw (one_end spans.first first, one_end spans.second second, one_end spans.third third) refl
