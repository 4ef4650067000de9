-- What bytes mean as an import: the command, or the first fault in the order of reading.
-- Which records a text has is `csv`'s own definition, with its defaults: fields between commas,
-- quotes as RFC 4180 (section 2) has them, a record's end at CR, LF or both, and no record on an
-- empty line.
use Rattle.std.specs.Prelude.{◌≡◌, ℕ, ◌+◌, List, [], ◌∷◌, nat_lt, bytes_eq, ok_or, Option, Result, Ok, Err, MatchResult, if◌then◌else◌}
use Rattle.std.specs.Cmp.Lexicographic.{pointwise}
use Rattle.csv.specs.Reading.{default_config, records, strip_bom}
use Rattle.md5.specs.Md5.{md5}
use Rattle.off_defs.specs.declared.tables.ImportKind.{ImportKind}
use Rattle.off_defs.specs.declared.tables.ImportKind.TheVariants.{Subscribers, Modems}
use Rattle.off_orders.specs.declared.orders.ImportRow.{ImportRow}
use Rattle.off_orders.specs.declared.orders.ImportRow.TheVariants as imported
use Rattle.off_orders.specs.declared.orders.Command.{Command}
use Rattle.off_orders.specs.declared.orders.Command.TheVariants.{Import}
use Rattle.off_import_rules.specs.Columns.{columns, number_cell, flag_cell, devices_cell, text_cell, mac_cell}
use Rattle.off_import_rules.specs.declared.faults.ImportFault.TheVariants.{Header, Width, Field, TooMany}
use Rattle.off_import_rules.specs.declared.faults.ImportErr.{ImportErr}
use Rattle.off_import_rules.specs.declared.faults.ImportFault.{ImportFault}
use Rattle.off_import_rules.specs.declared.faults.ImportErr.TheVariants.{Fault, Memory}

-- how many rows an import has at most
abbrev pub most_import_rows : ℕ
most_import_rows = 2000

-- the second step, if the first gave a value: `do` reads in order, and ends at the first fault
infixl 10 ◌>>=◌
abbrev pub ◌>>=◌ : {A B : Type 0} → Result A ImportFault → (A → Result B ImportFault)
    → Result B ImportFault
Ok x >>= f = f x
Err e >>= f = Err e

-- the field of a row and a column
abbrev pub cell_in : {A : Type 0} → ℕ → ℕ → (List ℕ → Option A) → List ℕ → Result A ImportFault
cell_in row column read text = ok_or (read text) (Field row column)

-- a row: its number, and its fields in the order of the columns
abbrev pub row_of_record : ImportKind → ℕ → List (List ℕ) → Result ImportRow ImportFault
row_of_record Subscribers row (first ∷ second ∷ third ∷ fourth ∷ []) = do
  number ← cell_in row 1 number_cell first
  active ← cell_in row 2 flag_cell second
  cpes ← cell_in row 3 devices_cell third
  text ← cell_in row 4 text_cell fourth
  Ok (imported.Subscriber number (record { active = active; cpes = cpes; name = text }))
row_of_record Modems row (first ∷ second ∷ third ∷ fourth ∷ []) = do
  mac ← cell_in row 1 mac_cell first
  subscriber ← cell_in row 2 number_cell second
  class ← cell_in row 3 number_cell third
  text ← cell_in row 4 text_cell fourth
  Ok (imported.Modem mac (record { subscriber = subscriber; class = class; serial = text }))
row_of_record kind row fields = Err (Width row)

-- the rows from row number `row` on. A row too many is a fault whatever it holds
abbrev pub rows_of_records : ImportKind → ℕ → List (List (List ℕ))
    → Result (List ImportRow) ImportFault
rows_of_records kind row [] = Ok []
rows_of_records kind row (fields ∷ more) =
    if nat_lt most_import_rows row then Err TooMany
    else do
      first ← row_of_record kind row fields
      rest ← rows_of_records kind (row + 1) more
      Ok (first ∷ rest)

-- the records: the names of the columns, and then the rows, which count from 1
abbrev pub table_of_records : ImportKind → List (List (List ℕ))
    → Result (List ImportRow) ImportFault
table_of_records kind [] = Err Header
table_of_records kind (header ∷ rows) =
    if pointwise bytes_eq header (columns kind) then rows_of_records kind 1 rows
    else Err Header

-- One byte order mark (RFC 3629, section 6) at the front is no part of the text; the digest
-- (RFC 1321) is that of all bytes.
abbrev pub import_in : ImportKind → ℕ → List ℕ → Result Command ImportFault
import_in kind batch bytes = do
  rows ← table_of_records kind (records default_config (strip_bom bytes))
  Ok (Import kind batch (md5 bytes) rows)

-- this is what was wanted, or memory was wanted
abbrev pub GivesFault : {A : Type 0} → Result A ImportFault → ImportErr → Type 0
GivesFault wanted (Fault fault) = wanted ≡ Err fault
GivesFault wanted Memory = Unit {0}

abbrev pub GivesImport : {A : Type 0} → Result A ImportFault → Result A ImportErr → Type 0
GivesImport wanted result =
    MatchResult result (λ x. wanted ≡ Ok x) (GivesFault wanted)
