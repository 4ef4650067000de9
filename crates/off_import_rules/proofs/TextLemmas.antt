-- Which texts a field takes.
use Rattle.std.proofs.Common.{◌≡◌, ◌≤◌, ◌∙◌, ℕ, Bool, true, false, List, length, refl, sym, ap, arith, Option, Some, None, Result, Ok, Err, cond, ◌&&◌}
use Rattle.std.specs.Prelude.{IsUtf8, nat_le, ok_or}
use Rattle.std.specs.Str.{is_utf8}
use Rattle.std.proofs.lemmas.Bool.Decides.{nat_tests}
use Rattle.std.proofs.lemmas.Str.{IsUtf8-from_is_utf8, is_utf8-from_IsUtf8}
use Rattle.off_import_rules.specs.Columns.{text_cell}
use Rattle.off_import_rules.specs.Reading.{cell_in}
use Rattle.off_import_rules.specs.declared.faults.ImportFault.{ImportFault}
use Rattle.off_import_rules.specs.declared.faults.ImportFault.TheVariants.{Field}

short_test : (n : ℕ) → n ≤ 64 → nat_le n 64 ≡ true
short_test n h = grind (arith, nat_tests)

short_tested : (n : ℕ) → nat_le n 64 ≡ true → n ≤ 64
short_tested n h = grind (arith, nat_tests)

taken_if : (a b : Bool) (text : List ℕ) → a ≡ true → b ≡ true → cond (a && b) (Some text) None ≡ Some text
taken_if true true text x y = refl
taken_if true false text x y = cc
taken_if false b text x y = cc

left_if : (a b : Bool) (text : List ℕ) → ((a ≡ true) → (b ≡ true) → ⊥) → cond (a && b) (Some text) None ≡ None
left_if true true text h = absurd (h refl refl)
left_if true false text h = refl
left_if false b text h = refl

a_text : (text : List ℕ) → length text ≤ 64 → IsUtf8 text → text_cell text ≡ Some text
a_text text short utf8 = taken_if (nat_le (length text) 64) (is_utf8 text) text (short_test (length text) short) (is_utf8-from_IsUtf8 text utf8)

no_text : (text : List ℕ) → ((length text ≤ 64) → IsUtf8 text → ⊥) → text_cell text ≡ None
no_text text none =
    left_if (nat_le (length text) 64) (is_utf8 text) text (λ short utf8. none (short_tested (length text) short) (IsUtf8-from_is_utf8 text utf8))

abbrev given : Option (List ℕ) → ImportFault → Result (List ℕ) ImportFault
given found err = ok_or found err

pub a_short : (short text : List ℕ) (row column : ℕ) → short ≡ text → length text ≤ 64 → IsUtf8 text → given (Some short) (Field row column) ≡ cell_in row column text_cell text
a_short short text row column same fits utf8 =
    ap (λ (t : List ℕ). given (Some t) (Field row column)) same
    ∙ sym (ap (λ (o : Option (List ℕ)). given o (Field row column)) (a_text text fits utf8))

pub no_short : (text : List ℕ) (row column : ℕ) (err : ImportFault) → err ≡ (Field row column) → ((length text ≤ 64) → IsUtf8 text → ⊥)
    → given None err ≡ cell_in row column text_cell text
no_short text row column err same none =
    ap (given None) same ∙ sym (ap (λ (o : Option (List ℕ)). given o (Field row column)) (no_text text none))
