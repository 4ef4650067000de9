-- The statements that serve the table, and what the rows that they answer say of the cells.
use Rattle.std.specs.Prelude.{◌≡◌, ℕ, List, [], ◌∷◌, ◌++◌, Option, Some, None, codes}
use Rattle.std.specs.FinMap as map
use Rattle.sqlite_value.specs.declared.value.Value.TheVariants.{Blob as Bytes}
use Rattle.sqlite_value.specs.Order.{Row}
use Rattle.off_cells.specs.CellsSeen.{CellMap, next_cell}

abbrev pub make_text : List ℕ
make_text =
    codes "CREATE TABLE IF NOT EXISTS office "
    ++ codes "(ident BLOB PRIMARY KEY NOT NULL, val BLOB NOT NULL) STRICT"

abbrev pub get_text : List ℕ
get_text = codes "SELECT val FROM office WHERE ident = ?1"

abbrev pub first_text : List ℕ
first_text = codes "SELECT ident, val FROM office ORDER BY ident LIMIT 1"

abbrev pub next_text : List ℕ
next_text = codes "SELECT ident, val FROM office WHERE ident > ?1 ORDER BY ident LIMIT 1"

abbrev pub put_text : List ℕ
put_text =
    codes "INSERT INTO office (ident, val) VALUES (?1, ?2) "
    ++ codes "ON CONFLICT (ident) DO UPDATE SET val = excluded.val"

abbrev pub drop_text : List ℕ
drop_text = codes "DELETE FROM office WHERE ident = ?1"

-- the value of a key, as the answer to `get_text` shows it
abbrev pub Gets : List ℕ → CellMap → List Row → Type 0
Gets ident m [] = map.get m ident ≡ None
Gets ident m (row ∷ rows) =
    (val : List ℕ) × (row ≡ Bytes val ∷ []) × (map.get m ident ≡ Some val)

-- the text that a walk begins by, and the one that it goes on by behind a key; and its parameters
abbrev pub walk_text : Option (List ℕ) → List ℕ
walk_text None = first_text
walk_text (Some ident) = next_text

abbrev pub walk_params : Option (List ℕ) → Row
walk_params None = []
walk_params (Some ident) = Bytes ident ∷ []

-- the next cell of a walk, as the answer to that text shows it
abbrev pub Nexts : Option (List ℕ) → CellMap → List Row → Type 0
Nexts place m [] = next_cell place m ≡ None
Nexts place m (row ∷ rows) =
    (ident : List ℕ) × (val : List ℕ) × (row ≡ Bytes ident ∷ Bytes val ∷ [])
    × (next_cell place m ≡ Some (ident, val))
