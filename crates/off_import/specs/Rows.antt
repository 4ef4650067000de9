-- The fields of a record that has one for each column, and the rows of an import.
use Rattle.std.specs.Prelude.{◌≡◌, ◌≤◌, ℕ, true, List, [], ◌∷◌, length}
use Rattle.std.specs.List.{list_all}
use Rattle.off_defs.specs.declared.tables.ImportKind.{ImportKind}
use Rattle.off_orders.specs.declared.orders.ImportRow.{ImportRow}
use Rattle.off_orders.specs.Sound.{is_row_of}
use Rattle.off_import.specs.declared.rows.Fields.{Fields}

abbrev pub four_listed : Fields → List (List ℕ)
four_listed fields =
    fields.first.now ∷ fields.second.now ∷ fields.third.now ∷ fields.fourth.now ∷ []

-- as many as there may be, all of the kind
abbrev pub AreRowsOf : ImportKind → List ImportRow → Type 0
AreRowsOf kind rows = (length rows ≤ 2000) × (list_all (is_row_of kind) rows ≡ true)
