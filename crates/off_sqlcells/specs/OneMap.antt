-- The rows of the table hold one map of cells at most, so a connection that is open tells one.
use Rattle.std.specs.Prelude.{◌≡◌, ℕ, ℤ, List, Option, Some, None, IsTrue}
use Rattle.std.proofs.Common.{refl, sym, ap, ◌∙◌}
use Rattle.std.specs.Cmp.Lexicographic.{nat_list_cmp_total}
use Rattle.std.specs.FinMap as map
use Rattle.sqlite_value.specs.declared.value.Value.{Value}
use Rattle.sqlite_value.specs.declared.value.Value.TheVariants.{Blob as Bytes}
use Rattle.sqlite_value.specs.Order.{Row, column}
use Rattle.sqlite_rules.specs.Lists.{Has}
use Rattle.sqlite.specs.State.{State}
use Rattle.off_cells.specs.CellsSeen.{CellMap}
use Rattle.off_cells.proofs.SortedLemmas.{exact}
use Rattle.off_sqlcells.specs.Office.{cell_row}
use Rattle.off_sqlcells.specs.Holds.{AreCells}
use Rattle.off_sqlcells.specs.Stands.{Tells}

pub same_bytes : (a b : List ℕ) → ◌≡◌ {A = Value} (Bytes a) (Bytes b) → a ≡ b
same_bytes a b e = cc

pub cell_got : (table : List Row) (m : CellMap) (id : ℤ) (ident val : List ℕ) → AreCells table m →
    Has table (cell_row id ident val) → map.get m ident ≡ Some val
cell_got table m id ident val are has =
    let c = are.cells (cell_row id ident val) has in
    let same : ident ≡ c.ident = same_bytes ident c.ident (ap (λ (r : Row). column r 1) c.is) in
    let value : val ≡ c.val = same_bytes val c.val (ap (λ (r : Row). column r 2) c.is) in
    ap (map.get m) same ∙ c.held ∙ ap Some (sym value)

found_same : (table : List Row) (m n : CellMap) (q : List ℕ) (a b : Option (List ℕ)) →
    AreCells table m → AreCells table n → map.get m q ≡ a → map.get n q ≡ b → a ≡ b
found_same table m n q None None p h x y = refl
found_same table m n q (Some v) b p h x y =
    let row = p.there q v x in sym (cell_got table n row.0 q v h row.1) ∙ y
found_same table m n q None (Some w) p h x y =
    let row = h.there q w y in sym x ∙ cell_got table m row.0 q w p row.1

pub one_map : (table : List Row) (m n : CellMap) → AreCells table m → AreCells table n → m ≡ n
one_map table m n p h =
    map.same_map nat_list_cmp_total exact m n
    (λ q. found_same table m n q (map.get m q) (map.get n q) p h refl refl)

pub one_told : (s : State) (m n : CellMap) → IsTrue s.is_open → Tells s m → Tells s n → m ≡ n
one_told s m n up p q = one_map (s.now.trees 0) m n (p up).rows.are (q up).rows.are
