-- Cells store one value of the tables at most.
use Rattle.std.specs.Prelude.{◌≡◌, List, [], ◌∷◌, map as each}
use Rattle.std.proofs.Common.{refl, sym, ap, subst, ◌∙◌}
use Rattle.std.specs.FinMap as map
use Rattle.off_defs.specs.declared.keys.Key.{Key}
use Rattle.off_defs.specs.declared.tables.Row.{Row}
use Rattle.off_defs.specs.Told.{IsOne}
use Rattle.off_rows.specs.KeyBytes.{key_bytes}
use Rattle.off_rows.specs.RowBytes.{row_bytes, IsRowOf}
use Rattle.off_rows.proofs.KeyOrder.{one_key}
use Rattle.off_rows.proofs.Rows.{one_row}
use Rattle.off_cells.specs.CellsSeen.{Cell, CellMap, CellsSeen}
use Rattle.off_keepsql.specs.Stored.{cell_of, IsStorable, AllStorable}
use Rattle.off_keepsql.specs.SqlSeen.{StoredIn}

pub same_entry : (a b : Key × Row) → IsStorable a → IsStorable b → cell_of a ≡ cell_of b → a ≡ b
same_entry a b p q e =
    let keys : key_bytes a.0 ≡ key_bytes b.0 = ap (λ (c : Cell). c.0) e in
    let rows : row_bytes a.1 ≡ row_bytes b.1 = ap (λ (c : Cell). c.1) e in
    let key : a.0 ≡ b.0 = one_key a.0 b.0 p.key q.key keys in
    let row : a.1 ≡ b.1 = one_row a.0 a.1 b.1 p.row
    (subst (λ (k : Key). IsRowOf k b.1) (sym key) q.row) rows in
    λ i. (key i, row i)

same_entries : (es fs : List (Key × Row)) → AllStorable es → AllStorable fs →
    each cell_of es ≡ each cell_of fs → es ≡ fs
same_entries [] [] p q e = refl
same_entries [] (f ∷ fs) p q e = cc
same_entries (x ∷ es) [] p q e = cc
same_entries (x ∷ es) (f ∷ fs) p q e =
    let first : cell_of x ≡ cell_of f = cc in
    let others : each cell_of es ≡ each cell_of fs = cc in
    let one : x ≡ f = same_entry x f p.0 q.0 first in
    let rest : es ≡ fs = same_entries es fs p.1 q.1 others in
    λ i. one i ∷ rest i

pub one_stored : (seen : CellsSeen) → IsOne seen.cells → IsOne (StoredIn seen)
one_stored seen one t u p q =
    let cells : p.cells ≡ q.cells = one p.cells q.cells p.told q.told in
    let entries : each cell_of (map.entries t) ≡ each cell_of (map.entries u) =
    sym p.stores.cells ∙ (ap (λ (m : CellMap). map.entries m) cells ∙ q.stores.cells) in
    map.same_entries_map t u (same_entries (map.entries t)
    (map.entries u) p.stores.storable q.stores.storable entries)
