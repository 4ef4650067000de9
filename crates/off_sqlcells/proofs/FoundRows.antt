-- The rows of a table that was there are cells, where they obey the table's rules and their rowids rise.
use Rattle.std.proofs.Common.{◌≡◌, ◌≢◌, ℕ, ℤ, Bool, true, false, not, ◌&&◌, List, [], ◌∷◌, drop, Some, IsTrue, refl, sym, ap, subst, ◌∙◌, inl, inr}
use Rattle.std.specs.Ordering.{is_eq, is_ne}
use Rattle.std.specs.Cmp.{tied_itself}
use Rattle.std.specs.declared.cmp.Ordering.{Ordering}
use Rattle.std.specs.declared.cmp.Ordering.TheVariants.{Less, Equal, Greater}
use Rattle.std.specs.FinMap as map
use Rattle.std.proofs.lemmas.Bool.{and_parts, and_from, true≢false}
use Rattle.sqlite_value.specs.declared.value.Value.{Value}
use Rattle.sqlite_value.specs.declared.value.Value.TheVariants.{Null, Int, Real, Text, Blob as Bytes}
use Rattle.sqlite_value.specs.declared.keys.Collation.TheVariants.{Binary}
use Rattle.sqlite_value.specs.Order.{Row, column, value_cmp, bytes}
use Rattle.sqlite_value.proofs.OrderLemmas.{value_cmp_total}
use Rattle.sqlite_value.proofs.KeyLemmas.{first_key-plain}
use Rattle.sqlite_trees.specs.Tree.{Trees, rowid, IsTable}
use Rattle.sqlite_trees.specs.View.{View, IsShaped, is_int}
use Rattle.sqlite_trees.specs.Objects.{catalog_tree}
use Rattle.sqlite_trees.specs.declared.store.Shape.{Shape}
use Rattle.sqlite_trees.specs.declared.store.Shape.TheVariants.{Table}
use Rattle.sqlite_sql.specs.Ops.{binary, is_true, from_truth}
use Rattle.sqlite_schema.specs.declared.schema.Constraint.TheVariants.{Datatype, NotNull, Unique}
use Rattle.sqlite_schema.specs.Rules.{are_typed, are_present, differ, equal, clashes, passes}
use Rattle.sqlite_rules.specs.Lists.{Has}
use Rattle.sqlite_rules.proofs.ListLemmas.{all_has, some_from}
use Rattle.sqlite_catalog.specs.Listing.{IsSound}
use Rattle.sqlite_catalog.proofs.ReadLemmas.{shaped_of}
use Rattle.off_cells.specs.CellsSeen.{CellMap}
use Rattle.off_sqlcells.specs.Office.{office, office_schema, cell_row}
use Rattle.off_sqlcells.specs.Holds.{AreCells, Holds}
use Rattle.off_sqlcells.specs.InOrder.{IsInOrder}
use Rattle.off_sqlcells.proofs.RowLemmas.{tied_id, own_key, none_are, put_are, IsPut}
use Rattle.off_sqlcells.proofs.PutContent.{bytes_equal}

-- ---- one row

-- a rowid, a key and a value
abbrev pub IsOne : Row → Type 0
IsOne row = (id : ℤ) × (ident : List ℕ) × (val : List ℕ) × (row ≡ cell_row id ident val)

abbrev rest_typed : Row → Bool
rest_typed = are_typed office.key 0 office.columns

both_blobs : (id : ℤ) (a b : Value) → rest_typed (a ∷ b ∷ []) ≡ true → are_present office.key 0 office.columns (Int id ∷ a ∷ b ∷ []) ≡ true → IsOne (Int id ∷ a ∷ b ∷ [])
both_blobs id (Bytes i) (Bytes v) typed present = (id, i, v, refl)
both_blobs id Null b typed present = cc
both_blobs id (Int n) b typed present = cc
both_blobs id (Real x) b typed present = cc
both_blobs id (Text t) b typed present = cc
both_blobs id (Bytes i) Null typed present = cc
both_blobs id (Bytes i) (Int n) typed present = cc
both_blobs id (Bytes i) (Real x) typed present = cc
both_blobs id (Bytes i) (Text t) typed present = cc

no_more : (a b c : Value) (more : Row) → rest_typed (a ∷ b ∷ c ∷ more) ≡ true → ⊥
no_more a b c more typed = true≢false (sym (and_parts _ _ (and_parts _ _ typed).1).1)

one_row : (row : Row) → is_int (rowid row) ≡ true → rest_typed (drop 1 row) ≡ true → are_present office.key 0 office.columns row ≡ true → IsOne row
one_row [] whole typed present = cc
one_row (Null ∷ row) whole typed present = cc
one_row (Real x ∷ row) whole typed present = cc
one_row (Text t ∷ row) whole typed present = cc
one_row (Bytes b ∷ row) whole typed present = cc
one_row (Int id ∷ []) whole typed present = cc
one_row (Int id ∷ a ∷ []) whole typed present = absurd (true≢false (sym (and_parts _ _ present).1))
one_row (Int id ∷ a ∷ b ∷ []) whole typed present = both_blobs id a b typed present
one_row (Int id ∷ a ∷ b ∷ c ∷ more) whole typed present = absurd (no_more a b c more typed)

-- ---- two rows

differs_is : (o : Ordering) → is_true (from_truth (Some (is_ne o))) ≡ not (is_eq o)
differs_is Less = refl
differs_is Equal = refl
differs_is Greater = refl

ids_differ : (a b : ℤ) → differ (Int a) (Int b) ≡ not (is_eq (value_cmp (Int a) (Int b)))
unfolding binary
ids_differ a b = differs_is (value_cmp (Int a) (Int b))

not_either : (b : Bool) → not b ≢ true → b ≡ true
not_either true ne = refl
not_either false ne = absurd (ne refl)

-- rows of one key have one rowid
one_id : (rows : List Row) (a b : ℤ) (k v w : List ℕ) → clashes (record { digits = 0 }) (1 ∷ []) rows (cell_row b k w) ≡ false → Has rows (cell_row a k v) → a ≡ b
one_id rows a b k v w none has =
    tied_id a b (not_either _ (λ ne.
    let alike : (equal Binary (Bytes k) (Bytes k) && true) ≡ true = bytes_equal k k ∙ own_key k in
    let clash = some_from (λ other. (equal Binary (column other 1) (Bytes k) && true) && differ (rowid other) (Int b)) rows (cell_row a k v) has
    (and_from _ _ alike (ids_differ a b ∙ ne)) in
    absurd (true≢false (sym clash ∙ (rw first_key-plain at none)))))

-- rows of one rowid are one row, since the rowids rise
not_less : (a b : Row) → rowid a ≡ rowid b → value_cmp (rowid a) (rowid b) ≡ Less → ⊥
not_less a b same less =
    let own : is_eq (value_cmp (rowid a) (rowid b)) ≡ true = ap (λ (x : Value). is_eq (value_cmp x (rowid b))) same ∙ ap is_eq (tied_itself value_cmp_total (rowid b)) in
    true≢false (sym own ∙ ap is_eq less)

pub rising_apart : (rows : List Row) (a b : Row) → IsTable rows → Has rows a → Has rows b → rowid a ≡ rowid b → a ≡ b
rising_apart [] a b rise h k same = absurd h
rising_apart (r ∷ rows) a b rise (inl e) (inl f) same = e ∙ sym f
rising_apart (r ∷ rows) a b rise (inl e) (inr k) same =
    absurd (not_less r b (ap rowid (sym e) ∙ same) (all_has (λ x. value_cmp (rowid r) (rowid x) ≡ Less) rows b rise.0 k))
rising_apart (r ∷ rows) a b rise (inr h) (inl f) same =
    absurd (not_less r a (ap rowid (sym f) ∙ sym same) (all_has (λ x. value_cmp (rowid r) (rowid x) ≡ Less) rows a rise.0 h))
rising_apart (r ∷ rows) a b rise (inr h) (inr k) same = rising_apart rows a b rise.1 h k same

-- ---- all rows

-- rows that are cells, of which no two have one rowid or one key
pub record AreSound (rows : List Row) : Type 0 where
  pub each : (row : Row) → Has rows row → IsOne row
  pub rise : IsTable rows
  pub single : (a b : Row) → Has rows a → Has rows b → column a 1 ≡ column b 1 → a ≡ b

fewer : (r : Row) (rows : List Row) → AreSound (r ∷ rows) → AreSound rows
fewer r rows sound = record {
  each = λ row h. sound.each row (inr h);
  rise = sound.rise.1;
  single = λ a b h k e. sound.single a b (inr h) (inr k) e;
}

-- the cells that rows are
abbrev pub cells_of : List Row → CellMap
cells_of [] = map.empty
cells_of (row ∷ rows) = map.insert (cells_of rows) (bytes (column row 1)) (bytes (column row 2))

first_put : (rows : List Row) (id : ℤ) (k v : List ℕ) → AreSound (cell_row id k v ∷ rows) → IsPut rows (cell_row id k v ∷ rows) k v
first_put rows id k v sound =
    let row = cell_row id k v in
    let own : (x : Row) → Has rows x → rowid x ≢ Int id =
    λ x h e. not_less row x (sym e) (all_has (λ y. value_cmp (rowid row) (rowid y) ≡ Less) rows x sound.rise.0 h) in
    record {
      id = id;
      here = inl refl;
      back = λ x h. elim h [
        | inl same ↦ inl same
        | inr later ↦ inr (later, (λ e. own x later (ap rowid (sound.single x row (inr later) (inl refl) e))), own x later)
      ];
      kept = λ x h ne. inr h;
    }

pub are_cells : (rows : List Row) → AreSound rows → AreCells rows (cells_of rows)
are_cells [] sound = none_are
are_cells (row ∷ rows) sound =
    let one = sound.each row (inl refl) in
    let new = cell_row one.0 one.1 one.2 in
    let made : AreSound (new ∷ rows) = subst (λ (r : Row). AreSound (r ∷ rows)) one.3 sound in
    subst (λ (r : Row). AreCells (r ∷ rows) (cells_of (r ∷ rows))) (sym one.3)
    (put_are rows (new ∷ rows) (cells_of rows) one.1 one.2 (are_cells rows (fewer new rows made)) (first_put rows one.0 one.1 one.2 made))

pub sound_hold : (rows : List Row) → AreSound rows → Holds rows (cells_of rows)
sound_hold rows sound = record {
  are = are_cells rows sound;
  apart = λ a b h k same. rising_apart rows a b sound.rise h k same;
  single = sound.single;
}

-- ---- the table of a database

module _ (db : Trees) (sound : IsSound office_schema db) (shaped : IsShaped Table (db 0)) where
  each_row : (row : Row) → Has (db 0) row → IsOne row
  each_row row has =
      one_row row (all_has (λ r. IsTrue (is_int (rowid r))) (db 0) row shaped.1 has)
      (and_parts _ _ (all_has (λ r. passes Datatype office_schema db office r ≡ true) (db 0) row (sound.obeys.rules Datatype).0 has)).0
      (all_has (λ r. passes NotNull office_schema db office r ≡ true) (db 0) row (sound.obeys.rules NotNull).0 has)

  no_clash : (row : Row) → Has (db 0) row → clashes (record { digits = 0 }) (1 ∷ []) (db 0) row ≡ false
  no_clash row has =
      elim (clashes (record { digits = 0 }) (1 ∷ []) (db 0) row) as (λ b. clashes (record { digits = 0 }) (1 ∷ []) (db 0) row ≡ b → clashes (record { digits = 0 }) (1 ∷ []) (db 0) row ≡ false) [
        | true ↦ λ is. let unique = all_has (λ r. passes Unique office_schema db office r ≡ true) (db 0) row (sound.obeys.rules Unique).0 has in absurd (true≢false (sym unique ∙ ap (λ b. not b && true) is))
        | false ↦ λ is. is
      ] refl

  one_key : (a b : Row) → Has (db 0) a → Has (db 0) b → column a 1 ≡ column b 1 → a ≡ b
  one_key a b h k same =
      let x = each_row a h in
      let y = each_row b k in
      let key : x.1 ≡ y.1 = cc in
      let id : x.0 ≡ y.0 =
      one_id (db 0) x.0 y.0 y.1 x.2 y.2 (subst (λ (r : Row). clashes (record { digits = 0 }) (1 ∷ []) (db 0) r ≡ false) y.3 (no_clash b k))
      (subst (λ (i : List ℕ). Has (db 0) (cell_row x.0 i x.2)) key (subst (λ (r : Row). Has (db 0) r) x.3 h)) in
      rising_apart (db 0) a b shaped.0 h k (ap rowid x.3 ∙ ap (λ (n : ℤ). Int n) id ∙ sym (ap rowid y.3))

  pub rows_sound : AreSound (db 0)
  rows_sound = record { each = each_row; rise = shaped.0; single = one_key }

pub committed_sound : (v : View) → IsInOrder v → IsSound office_schema v.committed → AreSound (v.committed 0)
committed_sound v order sound =
    let w : View = record v { trees = v.committed; shape = v.committed_shape; reals = v.committed_reals } in
    let rising = subst (λ (s : Shape). IsShaped s (v.committed catalog_tree)) order.listed.itself.0 (order.ordered catalog_tree) in
    let shape = (shaped_of w office_schema order.listed rising sound.lists).tables.0.0 in
    rows_sound v.committed sound (subst (λ (s : Shape). IsShaped s (v.committed 0)) shape (order.ordered 0))
