-- The length that fields declare, one field at a time.
use Rattle.std.proofs.Common.{◌≡◌, Bool, true, false, ℕ, ◌+◌, ◌<◌, List, ◌∷◌, length, drop, get_or, map, codes, ◌==◌, nat_eq, Option, Some, None, refl, sym, ◌∙◌, ap, arith, if◌then◌else◌}
use Rattle.std.specs.List.{list_all}
use Rattle.std.specs.Option.{option_eq, option_map_or}
use Rattle.std.proofs.lemmas.Bool.{eqb-true}
use Rattle.std.proofs.lemmas.Bool.Decides.{nat_tests}
use Rattle.std.specs.Str.{str_eq_ignore_ascii_case}
use Rattle.std.proofs.lemmas.List.{at_drop_more}
use Rattle.httparse.specs.declared.spans.HeaderSpan.{HeaderSpan}
use Rattle.httparse.specs.Spans.{span_bytes, header_bytes}
use Rattle.off_http.specs.Request.{FieldText, is_named, values_of, length_read, common_number}

-- the number that all of these are, where those before them were `earlier`
abbrev pub common_after : Option ℕ → List (Option ℕ) → Option ℕ
common_after None numbers = common_number numbers
common_after (Some n) numbers = if list_all (λ number. option_eq nat_eq number (Some n)) numbers then Some n else None

-- the length that fields declare, where those before them declared `earlier`
abbrev pub length_after : Option ℕ → List FieldText → Option ℕ
length_after earlier fields = common_after earlier (map length_read (values_of (codes "content-length") fields))

module _ (field : FieldText) (fields : List FieldText) where
  pub passed_other : (earlier : Option ℕ) → is_named (codes "content-length") field ≡ false
      → length_after earlier (field ∷ fields) ≡ length_after earlier fields
  passed_other None other = rw other refl
  passed_other (Some n) other = rw other refl

  pub refused_bad : (earlier : Option ℕ) → is_named (codes "content-length") field ≡ true → length_read field.1 ≡ None
      → length_after earlier (field ∷ fields) ≡ None
  refused_bad None named bad = rw (named, bad) refl
  refused_bad (Some n) named bad = rw (named, bad) refl

  pub refused_apart : (earlier : Option ℕ) (number : ℕ) → is_named (codes "content-length") field ≡ true → length_read field.1 ≡ Some number
      → option_map_or (λ declared. declared == number) earlier true ≡ false → length_after earlier (field ∷ fields) ≡ None
  refused_apart None number named is apart = absurd cc
  refused_apart (Some n) number named is apart =
      let other : nat_eq number n ≡ false = grind (arith, nat_tests) in
      rw (named, is, other) refl

  pub passed_same : (earlier : Option ℕ) (number : ℕ) → is_named (codes "content-length") field ≡ true → length_read field.1 ≡ Some number
      → option_map_or (λ declared. declared == number) earlier true ≡ true → length_after earlier (field ∷ fields) ≡ length_after (Some number) fields
  passed_same None number named is same = rw (named, is) refl
  passed_same (Some n) number named is same =
      let one : n ≡ number = eqb-true n number same in
      let also : nat_eq number n ≡ true = grind (arith, nat_tests) in
      rw (named, is, also) (ap (λ m. common_after (Some m) (map length_read (values_of (codes "content-length") fields))) one)

-- ---- the fields where a head has them

abbrev pub field_at : List HeaderSpan → ℕ → HeaderSpan
field_at fields i = get_or fields i (record { name = record { start = 0; end = 0 }; value = record { start = 0; end = 0 } })

-- what the fields from one on declare
abbrev pub length_from : List ℕ → Option ℕ → List HeaderSpan → Option ℕ
length_from text earlier fields = length_after earlier (map (header_bytes text) fields)

turn : (text : List ℕ) (earlier : Option ℕ) (fields : List HeaderSpan) (i : ℕ) → i < length fields
    → length_from text earlier (drop i fields) ≡ length_after earlier (header_bytes text (field_at fields i) ∷ map (header_bytes text) (drop (i + 1) fields))
turn text earlier fields i here = at_drop_more (length_from text earlier) fields i (record { name = record { start = 0; end = 0 }; value = record { start = 0; end = 0 } }) here

-- what a test of a name answered says of the field
named_by : (text shown : List ℕ) (tested is : Bool) (field : HeaderSpan) → shown ≡ span_bytes text field.name → tested ≡ str_eq_ignore_ascii_case shown (codes "content-length")
    → tested ≡ is → is_named (codes "content-length") (header_bytes text field) ≡ is
named_by text shown tested is field shown_is tested_is was =
    sym (ap (λ name. str_eq_ignore_ascii_case name (codes "content-length")) shown_is) ∙ sym tested_is ∙ was

module _ (text : List ℕ) (fields : List HeaderSpan) (i : ℕ) (earlier all : Option ℕ) (here : i < length fields) (so_far : length_from text earlier (drop i fields) ≡ all)
    (shown : List ℕ) (tested : Bool) (shown_is : shown ≡ span_bytes text (field_at fields i).name) (tested_is : tested ≡ str_eq_ignore_ascii_case shown (codes "content-length")) where
  pub step_other : (now : Option ℕ) → tested ≡ false → now ≡ earlier → length_from text now (drop (i + 1) fields) ≡ all
  step_other now was now_is =
      ap (λ o. length_from text o (drop (i + 1) fields)) now_is
      ∙ sym (passed_other (header_bytes text (field_at fields i)) (map (header_bytes text) (drop (i + 1) fields)) earlier (named_by text shown tested false (field_at fields i) shown_is tested_is was))
      ∙ sym (turn text earlier fields i here) ∙ so_far

  pub step_bad : (value : List ℕ) → tested ≡ true → value ≡ span_bytes text (field_at fields i).value → None ≡ length_read value → None ≡ all
  step_bad value was value_is bad =
      sym (refused_bad (header_bytes text (field_at fields i)) (map (header_bytes text) (drop (i + 1) fields)) earlier
      (named_by text shown tested true (field_at fields i) shown_is tested_is was) (ap length_read (sym value_is) ∙ sym bad))
      ∙ sym (turn text earlier fields i here) ∙ so_far

  pub step_same : (value : List ℕ) (number : ℕ) (now : Option ℕ) → tested ≡ true → value ≡ span_bytes text (field_at fields i).value → Some number ≡ length_read value
      → option_map_or (λ declared. declared == number) earlier true ≡ true → now ≡ Some number → length_from text now (drop (i + 1) fields) ≡ all
  step_same value number now was value_is read same now_is =
      ap (λ o. length_from text o (drop (i + 1) fields)) now_is
      ∙ sym (passed_same (header_bytes text (field_at fields i)) (map (header_bytes text) (drop (i + 1) fields)) earlier number
      (named_by text shown tested true (field_at fields i) shown_is tested_is was) (ap length_read (sym value_is) ∙ sym read) same)
      ∙ sym (turn text earlier fields i here) ∙ so_far
