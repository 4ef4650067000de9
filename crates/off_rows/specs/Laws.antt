-- What holds of all keys and rows.
use Rattle.std.specs.Prelude.{◌≡◌, ℕ, List, Result, MatchResult}
use Rattle.std.specs.Ordering.{nat_cmp}
use Rattle.std.specs.Cmp.Lexicographic.{slice_cmp}
use Rattle.off_defs.specs.declared.keys.Key.{Key}
use Rattle.off_defs.specs.declared.tables.Row.{Row}
use Rattle.off_defs.specs.Keys.{key_cmp}
use Rattle.off_rows.specs.KeyBytes.{key_bytes, IsRanged}
use Rattle.off_rows.specs.RowBytes.{row_bytes, IsRowOf}
use Rattle.off_rows.specs.BadRow.{IsBadAt}
use Rattle.off_rows.specs.Reading.{WhyNoRow, GivesRow}
use Rattle.off_rows.specs.declared.faults.RowErr.{RowErr}

-- keys are ordered as their bytes are
abbrev pub OrderedAsBytes : Type 0
OrderedAsBytes =
    (a b : Key) → IsRanged a → IsRanged b →
    slice_cmp nat_cmp (key_bytes a) (key_bytes b) ≡ key_cmp a b

-- Different keys have different bytes.
abbrev pub OneKey : Type 0
OneKey = (a b : Key) → IsRanged a → IsRanged b → key_bytes a ≡ key_bytes b → a ≡ b

-- Rows of one key's kind have different bytes, so each has one spelling and each spelling one row.
abbrev pub OneSpelling : Type 0
OneSpelling =
    (key : Key) (a b : Row) → IsRowOf key a → IsRowOf key b → row_bytes a ≡ row_bytes b → a ≡ b

-- what `decode` promises to answer gives a row back from its bytes, unless memory runs out
abbrev pub RowsReadBack : Type 0
RowsReadBack =
    (key : Key) (row : Row) (result : Result Row RowErr) → IsRowOf key row →
    MatchResult result (λ given. IsRowOf key given × (row_bytes given ≡ row_bytes row))
    (WhyNoRow key (row_bytes row)) → GivesRow row result

-- bytes have one bad place at most
abbrev pub OneBadPlace : Type 0
OneBadPlace =
    (key : Key) (bytes : List ℕ) (p q : ℕ) → IsBadAt key bytes p → IsBadAt key bytes q → p ≡ q
