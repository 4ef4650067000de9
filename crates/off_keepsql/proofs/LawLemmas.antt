-- Cells of which each is a key and a row, as tables.
use Rattle.std.proofs.Common.{◌≡◌, Bool, ◌&&◌, T, List, [], ◌∷◌, map as each, refl, sym, ap, subst, ◌∙◌}
use Rattle.std.specs.Ordering.{is_lt}
use Rattle.std.specs.declared.cmp.Ordering.{Ordering}
use Rattle.std.specs.FinMap as map
use Rattle.std.specs.FinMap.Entries as list
use Rattle.off_defs.specs.declared.keys.Key.{Key}
use Rattle.off_defs.specs.declared.tables.Row.{Row}
use Rattle.off_defs.specs.Keys.{key_cmp}
use Rattle.off_rows.specs.KeyBytes.{key_bytes, IsRanged}
use Rattle.off_cells.specs.CellsSeen.{Cell}
use Rattle.off_cells.proofs.SortedLemmas.{bytes_cmp}
use Rattle.off_keepsql.specs.Stored.{cell_of, AllStorable}
use Rattle.off_keepsql.specs.Laws.{AllAreEntries, EntriesAreTables, TablesAreEntries}
use Rattle.off_keepsql.proofs.EntryCells.{in_order}

below_cells : (key : Key) (es : List (Key × Row)) → IsRanged key → AllStorable es → list.below_all bytes_cmp (key_bytes key) (each cell_of es) ≡ list.below_all key_cmp key es
below_cells key [] ranged all = refl
below_cells key (e ∷ es) ranged all =
    ap (λ (o : Ordering). is_lt o && list.below_all bytes_cmp (key_bytes key) (each cell_of es)) (in_order key e ranged all.0)
    ∙ ap (λ (b : Bool). is_lt (key_cmp key e.0) && b) (below_cells key es ranged all.1)

sorted_cells : (es : List (Key × Row)) → AllStorable es → list.is_sorted bytes_cmp (each cell_of es) ≡ list.is_sorted key_cmp es
sorted_cells [] all = refl
sorted_cells (e ∷ es) all =
    ap (λ (b : Bool). b && list.is_sorted bytes_cmp (each cell_of es)) (below_cells e.0 es all.0.key all.1)
    ∙ ap (λ (b : Bool). list.below_all key_cmp e.0 es && b) (sorted_cells es all.1)

record ReadBack (cells : List Cell) : Type 0 where
  entries : List (Key × Row)
  storable : AllStorable entries
  same : each cell_of entries ≡ cells

read_back : (cells : List Cell) → AllAreEntries cells → ReadBack cells
read_back [] all = record { entries = []; storable = tt; same = refl }
read_back (cell ∷ cells) all =
    let rest = read_back cells all.1 in
    record {
      entries = all.0.entry ∷ rest.entries;
      storable = (all.0.storable, rest.storable);
      same = λ i. all.0.same i ∷ rest.same i;
    }

pub entries_are_tables : EntriesAreTables
entries_are_tables m all =
    let back = read_back (map.entries m) all in
    let sorted : T (list.is_sorted key_cmp back.entries) =
    subst T (sorted_cells back.entries back.storable) (subst (λ (cells : List Cell). T (list.is_sorted bytes_cmp cells)) (sym back.same) (map.entries_sorted m)) in
    let is : map.entries (map.from_sorted {R = key_cmp} back.entries) ≡ back.entries = map.entries-from_sorted key_cmp back.entries sorted in (
      map.from_sorted {R = key_cmp} back.entries,
      record {
        cells = sym back.same ∙ ap (λ (es : List (Key × Row)). each cell_of es) (sym is);
        storable = subst (λ (es : List (Key × Row)). AllStorable es) (sym is) back.storable;
      },
    )

each_is_entry : (es : List (Key × Row)) → AllStorable es → AllAreEntries (each cell_of es)
each_is_entry [] all = tt
each_is_entry (e ∷ es) all = (record { entry = e; storable = all.0; same = refl }, each_is_entry es all.1)

pub tables_are_entries : TablesAreEntries
tables_are_entries m t stores =
    subst (λ (cells : List Cell). AllAreEntries cells) (sym stores.cells) (each_is_entry (map.entries t) stores.storable)
