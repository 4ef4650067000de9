-- The rows of an import, row by row.
use Rattle.std.proofs.Common.{◌≡◌, ◌≤◌, ◌+◌, ℕ, Bool, true, false, List, [], ◌∷◌, ◌++◌, refl, sym, ap, ◌∙◌, append_assoc, arith, Result, Ok, Err, cond, ◌&&◌}
use Rattle.std.specs.Prelude.{nat_lt, IsTrue}
use Rattle.std.proofs.lemmas.Bool.Decides.{nat_tests}
use Rattle.std.proofs.lemmas.List.Folds.{list_all-append}
use Rattle.std.specs.List.{list_all}
use Rattle.off_orders.specs.Sound.{is_row_of}
use Rattle.off_defs.specs.declared.tables.ImportKind.{ImportKind}
use Rattle.off_orders.specs.declared.orders.ImportRow.{ImportRow}
use Rattle.off_import_rules.specs.Reading.{rows_of_records, row_of_record, ◌>>=◌, most_import_rows}
use Rattle.off_import_rules.specs.declared.faults.ImportFault.{ImportFault}
use Rattle.off_import_rules.specs.declared.faults.ImportFault.TheVariants.{TooMany}

-- rows, and those that are read behind them
abbrev pub Rows : Type 0
Rows = Result (List ImportRow) ImportFault

abbrev pub rows_after : List ImportRow → Rows → Rows
rows_after done (Ok rest) = Ok (done ++ rest)
rows_after done (Err err) = Err err

few : (n : ℕ) → n ≤ 2000 → nat_lt most_import_rows n ≡ false
few n h = grind (arith, nat_tests)

abbrev with_row : Result ImportRow ImportFault → Rows → Rows
with_row first rest = do
  row ← first
  rows ← rest
  Ok (row ∷ rows)

-- a row that may stand there
row_then : (kind : ImportKind) (n : ℕ) (fields : List (List ℕ)) (more : List (List (List ℕ))) → n ≤ 2000
    → rows_of_records kind n (fields ∷ more) ≡ with_row (row_of_record kind n fields) (rows_of_records kind (n + 1) more)
row_then kind n fields more h = ap (λ (b : Bool). cond b (Err TooMany) (with_row (row_of_record kind n fields) (rows_of_records kind (n + 1) more))) (few n h)

pushed : (done : List ImportRow) (row : ImportRow) (rest : Rows) → rows_after done (with_row (Ok row) rest) ≡ rows_after (done ++ row ∷ []) rest
pushed done row (Ok rows) = ap (λ (l : List ImportRow). let got : Rows = Ok l in got) (sym (append_assoc done (row ∷ []) rows))
pushed done row (Err err) = refl

pub goes_on : (kind : ImportKind) (n : ℕ) (left : List (List (List ℕ))) (fields : List (List ℕ)) (more : List (List (List ℕ))) (done : List ImportRow) (row : ImportRow)
    → left ≡ fields ∷ more → n ≤ 2000 → row_of_record kind n fields ≡ Ok row
    → rows_after done (rows_of_records kind n left) ≡ rows_after (done ++ row ∷ []) (rows_of_records kind (n + 1) more)
goes_on kind n left fields more done row e h good =
    ap (λ (l : List (List (List ℕ))). rows_after done (rows_of_records kind n l)) e ∙ ap (rows_after done) (row_then kind n fields more h)
    ∙ ap (λ (first : Result ImportRow ImportFault). rows_after done (with_row first (rows_of_records kind (n + 1) more))) good ∙ pushed done row (rows_of_records kind (n + 1) more)

both : (a b : Bool) → a ≡ true → IsTrue b → (a && (b && true)) ≡ true
both true true x y = refl
both true false x y = cc
both false b x y = cc

-- one row more of the kind
pub sound_more : (kind : ImportKind) (done : List ImportRow) (row : ImportRow) → list_all (is_row_of kind) done ≡ true → IsTrue (is_row_of kind row)
    → list_all (is_row_of kind) (done ++ row ∷ []) ≡ true
sound_more kind done row all one = list_all-append (is_row_of kind) done (row ∷ []) ∙ both (list_all (is_row_of kind) done) (is_row_of kind row) all one
