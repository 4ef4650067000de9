-- Tables in cells: each row stands in its cell, the next entry in the next cell, and what writes make of the one is what they make of the other.
use Rattle.std.proofs.Common.{◌≡◌, ℕ, not, Option, Some, None, List, [], ◌∷◌, map as each, refl, sym, ap, subst, ◌∙◌}
use Rattle.std.specs.List.{filter, find}
use Rattle.std.specs.Option.{option_map}
use Rattle.std.specs.Ordering.{nat_cmp, eq_by_cmp}
use Rattle.std.specs.Cmp.Lexicographic.{slice_cmp, nat_list_cmp_total}
use Rattle.std.specs.FinMap as map
use Rattle.std.specs.FinMap.Entries as list
use Rattle.off_defs.specs.declared.keys.Key.{Key}
use Rattle.off_defs.specs.declared.tables.Row.{Row}
use Rattle.off_defs.specs.declared.writes.Write.{Write}
use Rattle.off_defs.specs.declared.writes.Write.TheVariants.{Put, Drop}
use Rattle.off_defs.specs.Keys.{key_cmp}
use Rattle.off_defs.specs.State.{Tables}
use Rattle.off_defs.specs.Tables.{row_at, next_entry, with_row, without, written, write_all, is_after}
use Rattle.off_defs.proofs.EntryLemmas.{entries_left}
use Rattle.off_defs.proofs.TableLemmas.{entries_with, entries_without}
use Rattle.off_rows.specs.KeyBytes.{key_bytes, IsRanged}
use Rattle.off_rows.specs.RowBytes.{row_bytes, IsRowOf}
use Rattle.off_rows.proofs.KeyOrder.{one_key}
use Rattle.off_rows.proofs.Rows.{one_row}
use Rattle.off_cells.specs.CellsSeen.{Cell, CellMap, cell_at, next_cell, is_behind}
use Rattle.off_cells.specs.CellWritten.{cell_written, write_cells}
use Rattle.off_keepsql.specs.Stored.{cell_of, IsStorable, AllStorable, Stores, IsBadCell, MeetsBad, cell_write, IsSpelled, AllSpelled, PlaceRanged}
use Rattle.off_keepsql.specs.OwnCount.{asked_at, asked_behind}
use Rattle.off_keepsql.specs.SqlLaws.{same_entry}
use Rattle.off_keepsql.proofs.EntryCells.{found_cells, put_cells, less_cells, next_cells, storable_put, storable_less, storable_found, storable_at}

-- the cell of a key holds its row
cell_is : (m : CellMap) (t : Tables) (key : Key) → Stores m t → IsRanged key → cell_at m (key_bytes key) ≡ option_map row_bytes (row_at t key)
cell_is m t key stores ranged =
    map.get-entries m (key_bytes key)
    ∙ (ap (λ (es : List Cell). list.find (slice_cmp nat_cmp) (key_bytes key) es) stores.cells
    ∙ (found_cells key (map.entries t) ranged stores.storable ∙ ap (λ (o : Option Row). option_map row_bytes o) (sym (map.get-entries t key))))

no_row : (o : Option Row) → None ≡ option_map row_bytes o → None ≡ o
no_row None e = refl
no_row (Some row) e = cc

pub got_none : (m : CellMap) (t : Tables) (key : Key) → IsRanged key → Stores m t → None ≡ cell_at m (key_bytes key) → None ≡ row_at t key
got_none m t key ranged stores none = no_row (row_at t key) (none ∙ cell_is m t key stores ranged)

-- the row that has these bytes is the row of the key
the_row : (t : Tables) (key : Key) (row : Row) (val : List ℕ) (o : Option Row) → AllStorable (map.entries t) → row_at t key ≡ o
    → IsRowOf key row → row_bytes row ≡ val → Some val ≡ option_map row_bytes o → Some row ≡ o
the_row t key row val None all at is bytes e = cc
the_row t key row val (Some held) all at is bytes e =
    let of_key : IsRowOf key held = storable_at key held (map.entries t) all (sym (map.get-entries t key) ∙ at) in
    let same : row_bytes held ≡ val = cc in
    ap Some (one_row key row held is of_key (bytes ∙ sym same))

pub got_row : (m : CellMap) (t : Tables) (key : Key) (val : List ℕ) (row : Row) → IsRanged key → IsRowOf key row → row_bytes row ≡ val → Stores m t
    → Some val ≡ cell_at m (key_bytes key) → Some row ≡ row_at t key
got_row m t key val row ranged is bytes stores found =
    the_row t key row val (row_at t key) stores.storable refl is bytes (found ∙ cell_is m t key stores ranged)

-- the next cell holds the next entry
next_is : (m : CellMap) (t : Tables) (place : Option Key) → Stores m t → PlaceRanged place
    → next_cell (option_map key_bytes place) m ≡ option_map cell_of (next_entry place t)
next_is m t place stores ranged =
    ap (λ (es : List Cell). find (is_behind (option_map key_bytes place)) es) stores.cells ∙ next_cells place (map.entries t) ranged stores.storable

no_entry : (o : Option (Key × Row)) → None ≡ option_map cell_of o → None ≡ o
no_entry None e = refl
no_entry (Some entry) e = cc

pub came_none : (m : CellMap) (t : Tables) (place : Option Key) → PlaceRanged place → Stores m t → None ≡ next_cell (option_map key_bytes place) m → None ≡ next_entry place t
came_none m t place ranged stores none = no_entry (next_entry place t) (none ∙ next_is m t place stores ranged)

the_entry : (t : Tables) (place : Option Key) (entry : Key × Row) (cell : Cell) (o : Option (Key × Row)) → AllStorable (map.entries t) → next_entry place t ≡ o
    → IsStorable entry → cell_of entry ≡ cell → Some cell ≡ option_map cell_of o → Some entry ≡ o
the_entry t place entry cell None all at is bytes e = cc
the_entry t place entry cell (Some held) all at is bytes e =
    let stored : IsStorable held = storable_found (is_after place) held (map.entries t) all at in
    let same : cell_of held ≡ cell = cc in
    ap Some (same_entry entry held is stored (bytes ∙ sym same))

pub came_entry : (m : CellMap) (t : Tables) (place : Option Key) (cell : Cell) (entry : Key × Row) → PlaceRanged place → IsStorable entry → cell_of entry ≡ cell → Stores m t
    → Some cell ≡ next_cell (option_map key_bytes place) m → Some entry ≡ next_entry place t
came_entry m t place cell entry ranged is bytes stores found =
    the_entry t place entry cell (next_entry place t) stores.storable refl is bytes (found ∙ next_is m t place stores ranged)

-- ---- writes

put_stores : (m : CellMap) (t : Tables) (key : Key) (row : Row) → IsStorable (key, row) → Stores m t → Stores (map.insert m (key_bytes key) (row_bytes row)) (with_row t key row)
put_stores m t key row is stores = record {
  cells =
      map.entries-insert nat_list_cmp_total m (key_bytes key) (row_bytes row)
      ∙ (ap (λ (es : List Cell). list.put (slice_cmp nat_cmp) (key_bytes key) (row_bytes row) es) stores.cells
      ∙ (put_cells key row (map.entries t) is.key stores.storable ∙ ap (λ (es : List (Key × Row)). each cell_of es) (sym (entries_with t key row))));
  storable = subst (λ (es : List (Key × Row)). AllStorable es) (sym (entries_with t key row)) (storable_put key row (map.entries t) is stores.storable);
}

drop_stores : (m : CellMap) (t : Tables) (key : Key) → IsRanged key → Stores m t → Stores (map.remove m (key_bytes key)) (without t key)
drop_stores m t key ranged stores = record {
  cells =
      entries_left (slice_cmp nat_cmp) nat_list_cmp_total (map.slice_cmp-IsAntisymmetric map.nat_cmp-IsAntisymmetric) m (key_bytes key)
      ∙ (ap (λ (es : List Cell). filter (λ (c : Cell). not (eq_by_cmp (slice_cmp nat_cmp) (key_bytes key) c.0)) es) stores.cells
      ∙ (less_cells key (map.entries t) ranged stores.storable ∙ ap (λ (es : List (Key × Row)). each cell_of es) (sym (entries_without t key))));
  storable =
      subst (λ (es : List (Key × Row)). AllStorable es) (sym (entries_without t key))
      (storable_less (λ e. not (eq_by_cmp key_cmp key e.0)) (map.entries t) stores.storable);
}

write_stores : (m : CellMap) (t : Tables) (write : Write) → IsSpelled write → Stores m t → Stores (cell_written m (cell_write write)) (written t write)
write_stores m t (Put key row) is stores = put_stores m t key row is stores
write_stores m t (Drop key) is stores = drop_stores m t key is stores

pub all_store : (m : CellMap) (t : Tables) (writes : List Write) → AllSpelled writes → Stores m t → Stores (write_cells m (each cell_write writes)) (write_all t writes)
all_store m t [] all stores = stores
all_store m t (write ∷ writes) all stores =
    all_store (cell_written m (cell_write write)) (written t write) writes all.1 (write_stores m t write all.0 stores)

-- ---- bad cells

abbrev with_key : Key → List ℕ → Cell
with_key key val = (key_bytes key, val)

-- a cell of the key is bad exactly where no row of the key has its bytes
pub bad_at : (m : CellMap) (key : Key) (val : List ℕ) → IsRanged key → ((row : Row) → IsRowOf key row → ¬ (row_bytes row ≡ val))
    → Some val ≡ cell_at m (key_bytes key) → MeetsBad (asked_at key m)
bad_at m key val ranged none found =
    subst (λ (o : Option (List ℕ)). MeetsBad (option_map (with_key key) o)) found (λ entry is same.
    let keys : key_bytes entry.0 ≡ key_bytes key = ap (λ (c : Cell). c.0) same in
    let own : entry.0 ≡ key = one_key entry.0 key is.key ranged keys in
    none entry.1 (subst (λ (k : Key). IsRowOf k entry.1) own is.row) (ap (λ (c : Cell). c.1) same))

pub good_at : (m : CellMap) (key : Key) (val : List ℕ) (row : Row) → IsRanged key → IsRowOf key row → row_bytes row ≡ val
    → Some val ≡ cell_at m (key_bytes key) → ¬ MeetsBad (asked_at key m)
good_at m key val row ranged is bytes found bad =
    let met : IsBadCell (key_bytes key, val) = subst (λ (o : Option (List ℕ)). MeetsBad (option_map (with_key key) o)) (sym found) bad in
    met (key, row) (record { key = ranged; row = is }) (ap (λ (v : List ℕ). (key_bytes key, v)) bytes)

pub none_at : (m : CellMap) (key : Key) → None ≡ cell_at m (key_bytes key) → ¬ MeetsBad (asked_at key m)
none_at m key found bad = subst (λ (o : Option (List ℕ)). MeetsBad (option_map (with_key key) o)) (sym found) bad

pub bad_behind : (m : CellMap) (place : Option Key) (cell : Cell) → IsBadCell cell → Some cell ≡ next_cell (option_map key_bytes place) m → MeetsBad (asked_behind place m)
bad_behind m place cell bad found = subst (λ (o : Option Cell). MeetsBad o) found bad

pub good_behind : (m : CellMap) (place : Option Key) (cell : Cell) (entry : Key × Row) → IsStorable entry → cell_of entry ≡ cell
    → Some cell ≡ next_cell (option_map key_bytes place) m → ¬ MeetsBad (asked_behind place m)
good_behind m place cell entry is bytes found bad =
    let met : IsBadCell cell = subst (λ (o : Option Cell). MeetsBad o) (sym found) bad in met entry is bytes

pub none_behind : (m : CellMap) (place : Option Key) → None ≡ next_cell (option_map key_bytes place) m → ¬ MeetsBad (asked_behind place m)
none_behind m place found bad = subst (λ (o : Option Cell). MeetsBad o) (sym found) bad
