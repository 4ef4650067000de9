-- Entries as cells, in order: what is found, put, dropped and walked over of the one is so of the other.
use Rattle.std.proofs.Common.{◌≡◌, Bool, true, false, cond, not, Option, Some, None, List, [], ◌∷◌, map as each, refl, sym, ap, subst, ◌∙◌}
use Rattle.std.specs.List.{filter, find}
use Rattle.std.specs.Option.{option_map}
use Rattle.std.specs.Ordering.{is_lt, is_eq, eq_by_cmp}
use Rattle.std.specs.declared.cmp.Ordering.{Ordering}
use Rattle.std.specs.declared.cmp.Ordering.TheVariants.{Less, Equal, Greater}
use Rattle.std.specs.FinMap.Entries as list
use Rattle.off_defs.specs.declared.keys.Key.{Key}
use Rattle.off_defs.specs.declared.tables.Row.{Row}
use Rattle.off_defs.specs.Keys.{key_cmp}
use Rattle.off_defs.specs.Tables.{is_after}
use Rattle.off_defs.proofs.KeyLemmas.{key_exact}
use Rattle.off_rows.specs.KeyBytes.{key_bytes, IsRanged}
use Rattle.off_rows.specs.RowBytes.{row_bytes, IsRowOf}
use Rattle.off_rows.proofs.KeyOrder.{ordered_as_bytes}
use Rattle.off_cells.specs.CellsSeen.{Cell, is_behind}
use Rattle.off_cells.proofs.SortedLemmas.{bytes_cmp}
use Rattle.off_keepsql.specs.Stored.{cell_of, IsStorable, AllStorable, PlaceRanged}

abbrev Entries : Type 0
Entries = List (Key × Row)

pub in_order : (key : Key) (e : Key × Row) → IsRanged key → IsStorable e → bytes_cmp (key_bytes key) (key_bytes e.0) ≡ key_cmp key e.0
in_order key e ranged stored = ordered_as_bytes key e.0 ranged stored.key

pub found_cells : (key : Key) (es : Entries) → IsRanged key → AllStorable es → list.find bytes_cmp (key_bytes key) (each cell_of es) ≡ option_map row_bytes (list.find key_cmp key es)
found_cells key [] ranged all = refl
found_cells key (e ∷ es) ranged all =
    ap (λ (o : Ordering). cond (is_eq o) (Some (row_bytes e.1)) (list.find bytes_cmp (key_bytes key) (each cell_of es))) (in_order key e ranged all.0)
    ∙ elim (key_cmp key e.0) as (λ o. cond (is_eq o) (Some (row_bytes e.1)) (list.find bytes_cmp (key_bytes key) (each cell_of es)) ≡ option_map row_bytes (cond (is_eq o) (Some e.1) (list.find key_cmp key es))) [
      | Less ↦ found_cells key es ranged all.1
      | Equal ↦ refl
      | Greater ↦ found_cells key es ranged all.1
    ]

pub put_cells : (key : Key) (row : Row) (es : Entries) → IsRanged key → AllStorable es
    → list.put bytes_cmp (key_bytes key) (row_bytes row) (each cell_of es) ≡ each cell_of (list.put key_cmp key row es)
put_cells key row [] ranged all = refl
put_cells key row (e ∷ es) ranged all =
    let cells : List Cell = each cell_of es in
    let more : List Cell = list.put bytes_cmp (key_bytes key) (row_bytes row) cells in
    ap (λ (o : Ordering). list.by_order o ((key_bytes key, row_bytes row) ∷ cell_of e ∷ cells) ((key_bytes e.0, row_bytes row) ∷ cells) (cell_of e ∷ more)) (in_order key e ranged all.0)
    ∙ elim (key_cmp key e.0) as (λ o. list.by_order o ((key_bytes key, row_bytes row) ∷ cell_of e ∷ cells) ((key_bytes e.0, row_bytes row) ∷ cells) (cell_of e ∷ more)
    ≡ each cell_of (list.by_order o ((key, row) ∷ e ∷ es) ((e.0, row) ∷ es) (e ∷ list.put key_cmp key row es))) [
      | Less ↦ refl
      | Equal ↦ refl
      | Greater ↦ ap (λ (w : List Cell). cell_of e ∷ w) (put_cells key row es ranged all.1)
    ]

pub less_cells : (key : Key) (es : Entries) → IsRanged key → AllStorable es
    → filter (λ (c : Cell). not (eq_by_cmp bytes_cmp (key_bytes key) c.0)) (each cell_of es) ≡ each cell_of (filter (λ e. not (eq_by_cmp key_cmp key e.0)) es)
less_cells key [] ranged all = refl
less_cells key (e ∷ es) ranged all =
    let cells : List Cell = filter (λ (c : Cell). not (eq_by_cmp bytes_cmp (key_bytes key) c.0)) (each cell_of es) in
    ap (λ (o : Ordering). cond (not (is_eq o)) (cell_of e ∷ cells) cells) (in_order key e ranged all.0)
    ∙ elim (key_cmp key e.0) as (λ o. cond (not (is_eq o)) (cell_of e ∷ cells) cells
    ≡ each cell_of (cond (not (is_eq o)) (e ∷ filter (λ e. not (eq_by_cmp key_cmp key e.0)) es) (filter (λ e. not (eq_by_cmp key_cmp key e.0)) es))) [
      | Less ↦ ap (λ (w : List Cell). cell_of e ∷ w) (less_cells key es ranged all.1)
      | Equal ↦ less_cells key es ranged all.1
      | Greater ↦ ap (λ (w : List Cell). cell_of e ∷ w) (less_cells key es ranged all.1)
    ]

behind_is : (place : Option Key) (e : Key × Row) → PlaceRanged place → IsStorable e → is_behind (option_map key_bytes place) (cell_of e) ≡ is_after place e
behind_is None e ranged stored = refl
behind_is (Some key) e ranged stored = ap is_lt (in_order key e ranged stored)

pub next_cells : (place : Option Key) (es : Entries) → PlaceRanged place → AllStorable es
    → find (is_behind (option_map key_bytes place)) (each cell_of es) ≡ option_map cell_of (find (is_after place) es)
next_cells place [] ranged all = refl
next_cells place (e ∷ es) ranged all =
    let more : Option Cell = find (is_behind (option_map key_bytes place)) (each cell_of es) in
    ap (λ (b : Bool). cond b (Some (cell_of e)) more) (behind_is place e ranged all.0)
    ∙ elim (is_after place e) as (λ b. cond b (Some (cell_of e)) more ≡ option_map cell_of (cond b (Some e) (find (is_after place) es))) [
      | true ↦ refl
      | false ↦ next_cells place es ranged all.1
    ]

-- ---- what is stored can be stored still

pub storable_put : (key : Key) (row : Row) (es : Entries) → IsStorable (key, row) → AllStorable es → AllStorable (list.put key_cmp key row es)
storable_put key row [] new all = (new, tt)
storable_put key row (e ∷ es) new all =
    elim (key_cmp key e.0) as (λ o. key_cmp key e.0 ≡ o → AllStorable (list.by_order o ((key, row) ∷ e ∷ es) ((e.0, row) ∷ es) (e ∷ list.put key_cmp key row es))) [
      | Less ↦ λ is. (new, all)
      | Equal ↦ λ is. (subst (λ (k : Key). IsStorable (k, row)) (key_exact key e.0 is) new, all.1)
      | Greater ↦ λ is. (all.0, storable_put key row es new all.1)
    ] refl

pub storable_less : (p : Key × Row → Bool) (es : Entries) → AllStorable es → AllStorable (filter p es)
storable_less p [] all = tt
storable_less p (e ∷ es) all =
    elim (p e) as (λ b. AllStorable (cond b (e ∷ filter p es) (filter p es))) [
      | true ↦ (all.0, storable_less p es all.1)
      | false ↦ storable_less p es all.1
    ]

pub storable_found : (p : Key × Row → Bool) (e : Key × Row) (es : Entries) → AllStorable es → find p es ≡ Some e → IsStorable e
storable_found p e [] all found = cc
storable_found p e (x ∷ es) all found =
    elim (p x) as (λ b. cond b (Some x) (find p es) ≡ Some e → IsStorable e) [
      | true ↦ λ is. let same : x ≡ e = cc in subst (λ (v : Key × Row). IsStorable v) same all.0
      | false ↦ λ is. storable_found p e es all.1 is
    ] found

pub storable_at : (key : Key) (row : Row) (es : Entries) → AllStorable es → list.find key_cmp key es ≡ Some row → IsRowOf key row
storable_at key row [] all found = cc
storable_at key row (e ∷ es) all found =
    elim (key_cmp key e.0) as (λ o. key_cmp key e.0 ≡ o → cond (is_eq o) (Some e.1) (list.find key_cmp key es) ≡ Some row → IsRowOf key row) [
      | Less ↦ λ is at. storable_at key row es all.1 at
      | Equal ↦ λ is at.
          let own : e.1 ≡ row = cc in
          subst (λ (k : Key). IsRowOf k row) (sym (key_exact key e.0 is)) (subst (λ (r : Row). IsRowOf e.0 r) own all.0.row)
      | Greater ↦ λ is at. storable_at key row es all.1 at
    ] refl found
