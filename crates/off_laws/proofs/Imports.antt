-- What is read of an import is at most 2,000 rows, each of its kind and in its ranges; and no import sets a site.
use Rattle.std.proofs.Common.{◌≡◌, ◌≤◌, ◌+◌, ℕ, Bool, true, false, cond, List, [], ◌∷◌, length, Option, Some, None, option_and_then, IfSome, Result, Ok, Err, IfOk, nat_le, nat_lt, refl, arith}
use Rattle.std.proofs.lemmas.Bool.{ltb-false, and_from}
use Rattle.std.proofs.lemmas.Bool.Decides.{nat_tests}
use Rattle.std.specs.Prelude.{ok_or, bytes_eq}
use Rattle.std.specs.Cmp.Lexicographic.{pointwise}
use Rattle.std.specs.Int.{is_in_range}
use Rattle.std.specs.List.{list_all}
use Rattle.csv.specs.Reading.{default_config, records, strip_bom}
use Rattle.md5.specs.Md5.{md5}
use Rattle.off_base.specs.Number.{number_read}
use Rattle.off_base.specs.declared.macs.Mac.{Mac}
use Rattle.off_defs.specs.declared.tables.ImportKind.{ImportKind}
use Rattle.off_defs.specs.declared.tables.ImportKind.TheVariants.{Subscribers, Modems}
use Rattle.off_orders.specs.declared.orders.ImportRow.{ImportRow}
use Rattle.off_orders.specs.declared.orders.ImportRow.TheVariants as imported
use Rattle.off_orders.specs.declared.orders.Command.{Command}
use Rattle.off_orders.specs.declared.orders.Command.TheVariants.{Import}
use Rattle.off_orders.specs.Sound.{is_sound, is_row_of}
use Rattle.off_import_rules.specs.Columns.{columns, number_cell, flag_cell, devices_cell, text_cell, mac_cell}
use Rattle.off_import_rules.specs.Reading.{◌>>=◌, cell_in, row_of_record, rows_of_records, table_of_records, import_in}
use Rattle.off_import_rules.specs.declared.faults.ImportFault.{ImportFault}
use Rattle.off_import_rules.specs.declared.faults.ImportFault.TheVariants.{Header, Field, TooMany}
use Rattle.off_order_laws.specs.Laws.{secret_fits}
use Rattle.off_laws.proofs.Paths.{number_within}

-- a count of devices
devices_if : (n : ℕ) (b : Bool) → nat_le 1 n ≡ b → nat_le n 254 ≡ true → IfSome (cond b (Some n) None) (λ (m : ℕ). is_in_range 1 254 m ≡ true)
devices_if n true e within = and_from (nat_le 1 n) (nat_le n 254) e within
devices_if n false e within = tt

devices_of : (read : Option ℕ) → IfSome read (λ (n : ℕ). nat_le n 254 ≡ true)
    → IfSome (option_and_then (λ n. cond (nat_le 1 n) (Some n) None) read) (λ (m : ℕ). is_in_range 1 254 m ≡ true)
devices_of (Some n) within = devices_if n _ refl within
devices_of None within = tt

given : (P : ℕ → Type 0) (read : Option ℕ) (err : ImportFault) → IfSome read P → IfOk (ok_or read err) P
given P (Some n) err h = h
given P None err h = tt

devices_fit : (row column : ℕ) (text : List ℕ) → IfOk (cell_in row column devices_cell text) (λ (m : ℕ). is_in_range 1 254 m ≡ true)
devices_fit row column text =
    given (λ m. is_in_range 1 254 m ≡ true) (devices_cell text) (Field row column) (devices_of (number_read 254 text) (number_within 254 text))

-- a row, by the fields that are read of it
subscriber_with : (number : Result ℕ ImportFault) (active : Result Bool ImportFault) (cpes : Result ℕ ImportFault) (text : Result (List ℕ) ImportFault)
    → IfOk cpes (λ (m : ℕ). is_in_range 1 254 m ≡ true)
    → IfOk (number >>= (λ n. active >>= (λ a. cpes >>= (λ c. text >>= (λ t. Ok (imported.Subscriber n (record { active = a; cpes = c; name = t })))))))
    (λ (row : ImportRow). is_row_of Subscribers row ≡ true)
subscriber_with (Ok n) (Ok a) (Ok c) (Ok t) h = h
subscriber_with (Ok n) (Ok a) (Ok c) (Err e) h = tt
subscriber_with (Ok n) (Ok a) (Err e) text h = tt
subscriber_with (Ok n) (Err e) cpes text h = tt
subscriber_with (Err e) active cpes text h = tt

modem_with : (mac : Result Mac ImportFault) (subscriber class : Result ℕ ImportFault) (text : Result (List ℕ) ImportFault)
    → IfOk (mac >>= (λ m. subscriber >>= (λ s. class >>= (λ c. text >>= (λ t. Ok (imported.Modem m (record { subscriber = s; class = c; serial = t })))))))
    (λ (row : ImportRow). is_row_of Modems row ≡ true)
modem_with (Ok m) (Ok s) (Ok c) (Ok t) = refl
modem_with (Ok m) (Ok s) (Ok c) (Err e) = tt
modem_with (Ok m) (Ok s) (Err e) text = tt
modem_with (Ok m) (Err e) class text = tt
modem_with (Err e) subscriber class text = tt

row_fits : (kind : ImportKind) (row : ℕ) (fields : List (List ℕ)) → IfOk (row_of_record kind row fields) (λ (r : ImportRow). is_row_of kind r ≡ true)
row_fits Subscribers row (first ∷ second ∷ third ∷ fourth ∷ []) =
    subscriber_with (cell_in row 1 number_cell first) (cell_in row 2 flag_cell second) (cell_in row 3 devices_cell third) (cell_in row 4 text_cell fourth) (devices_fit row 3 third)
row_fits Modems row (first ∷ second ∷ third ∷ fourth ∷ []) =
    modem_with (cell_in row 1 mac_cell first) (cell_in row 2 number_cell second) (cell_in row 3 number_cell third) (cell_in row 4 text_cell fourth)
row_fits _ row _ = tt

-- the rows from row number `row` on: with those before them they are at most 2,000
abbrev Fit : ImportKind → ℕ → List ImportRow → Type 0
Fit kind row rows = (length rows + row ≤ 2001) × (list_all (is_row_of kind) rows ≡ true)

abbrev AllFit : ImportKind → ℕ → Result (List ImportRow) ImportFault → Type 0
AllFit kind row read = IfOk read (Fit kind row)

with_row : (kind : ImportKind) (row : ℕ) (first : Result ImportRow ImportFault) (rest : Result (List ImportRow) ImportFault)
    → IfOk first (λ (r : ImportRow). is_row_of kind r ≡ true) → AllFit kind (row + 1) rest → AllFit kind row (first >>= (λ f. rest >>= (λ rs. Ok (f ∷ rs))))
with_row kind row (Ok first) (Ok rest) one more = (omega (arith, more.0), and_from (is_row_of kind first) (list_all (is_row_of kind) rest) one more.1)
with_row kind row (Ok first) (Err e) one more = tt
with_row kind row (Err e) rest one more = tt

few_rows : (kind : ImportKind) (row : ℕ) (first : Result ImportRow ImportFault) (rest : Result (List ImportRow) ImportFault) (b : Bool) → nat_lt 2000 row ≡ b
    → IfOk first (λ (r : ImportRow). is_row_of kind r ≡ true) → (row + 1 ≤ 2001 → AllFit kind (row + 1) rest)
    → AllFit kind row (cond b (Err TooMany) (first >>= (λ f. rest >>= (λ rs. Ok (f ∷ rs)))))
few_rows kind row first rest true e one more = tt
few_rows kind row first rest false e one more = with_row kind row first rest one (more (omega (arith, ltb-false 2000 row e)))

rows_fit : (kind : ImportKind) (row : ℕ) (left : List (List (List ℕ))) → row ≤ 2001 → AllFit kind row (rows_of_records kind row left)
rows_fit kind row [] few = (omega (arith, few), refl)
rows_fit kind row (fields ∷ more) few =
    few_rows kind row (row_of_record kind row fields) (rows_of_records kind (row + 1) more) _ refl (row_fits kind row fields) (λ below. rows_fit kind (row + 1) more below)

if_header : (kind : ImportKind) (rows : List (List (List ℕ))) (b : Bool) → AllFit kind 1 (cond b (rows_of_records kind 1 rows) (Err Header))
if_header kind rows true = rows_fit kind 1 rows (omega arith)
if_header kind rows false = tt

table_fits : (kind : ImportKind) (all : List (List (List ℕ))) → AllFit kind 1 (table_of_records kind all)
table_fits kind [] = tt
table_fits kind (header ∷ rows) = if_header kind rows (pointwise bytes_eq header (columns kind))

at_most : (n : ℕ) → n + 1 ≤ 2001 → nat_le n 2000 ≡ true
at_most n h = grind (arith, nat_tests)

of_rows : (kind : ImportKind) (batch : ℕ) (digest : List ℕ) (rows : Result (List ImportRow) ImportFault) → AllFit kind 1 rows
    → IfOk (rows >>= (λ rs. Ok (Import kind batch digest rs))) (λ (command : Command). (is_sound command ≡ true) × (secret_fits command ≡ true))
of_rows kind batch digest (Ok rows) fit =
    (and_from (nat_le (length rows) 2000) (list_all (is_row_of kind) rows) (at_most (length rows) fit.0) fit.1, refl)
of_rows kind batch digest (Err e) fit = tt

pub import_sound : (kind : ImportKind) (batch : ℕ) (bytes : List ℕ) → IfOk (import_in kind batch bytes) (λ (command : Command). (is_sound command ≡ true) × (secret_fits command ≡ true))
import_sound kind batch bytes =
    of_rows kind batch (md5 bytes) (table_of_records kind (records default_config (strip_bom bytes))) (table_fits kind (records default_config (strip_bom bytes)))
