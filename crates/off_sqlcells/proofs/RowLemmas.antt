-- What writes of rows make of the cells that the rows hold.
use Rattle.std.proofs.Common.{◌≡◌, ◌≢◌, ◌⊎◌, inl, inr, ℕ, ℤ, true, false, cond, not, ◌&&◌, List, [], ◌∷◌, Some, None, refl, sym, ap, subst, ◌∙◌}
use Rattle.std.specs.Ordering.{int_cmp, is_eq, eq_by_cmp}
use Rattle.std.specs.Cmp.{eq_by_cmp_equiv, tied_itself}
use Rattle.std.specs.Cmp.Lexicographic.{nat_list_cmp_total}
use Rattle.std.specs.FinMap as map
use Rattle.std.proofs.lemmas.Bool.{and_parts, true≢false, false_from_ne_true, not-true}
use Rattle.sqlite_value.specs.declared.value.Value.{Value}
use Rattle.sqlite_value.specs.declared.value.Value.TheVariants.{Int, Blob as Bytes}
use Rattle.sqlite_value.specs.Order.{Row, column, value_cmp}
use Rattle.sqlite_value.proofs.OrderLemmas.{value_cmp_total, value_cmp-Int}
use Rattle.sqlite_trees.specs.Tree.{rowid, has_rowid, put_row, without_rowid}
use Rattle.sqlite_rules.specs.Lists.{Has}
use Rattle.sqlite_rules.specs.Edit.{without_all, put_all, is_taken, are_fresh}
use Rattle.sqlite_rules.proofs.ListLemmas.{has_filtered, has_kept, some_from}
use Rattle.sqlite_rules.proofs.TableLemmas.{put_all_has, put_all_keeps, put_all_adds, without_all_has}
use Rattle.off_sqlcells.specs.Office.{cell_row}
use Rattle.off_cells.specs.CellsSeen.{CellMap}
use Rattle.off_sqlcells.specs.OneMap.{same_bytes}
use Rattle.off_defs.proofs.EntryLemmas.{is_equal}
use Rattle.off_cells.proofs.SortedLemmas.{bytes_cmp, same_key}
use Rattle.off_sqlcells.specs.Holds.{IsCellOf, AreCells, Holds}

-- ---- keys

pub own_key : (a : List ℕ) → eq_by_cmp bytes_cmp a a ≡ true
own_key a = (eq_by_cmp_equiv nat_list_cmp_total).refl a

other_key : (a b : List ℕ) → a ≢ b → eq_by_cmp bytes_cmp a b ≡ false
other_key a b ne = false_from_ne_true _ (λ t. ne (same_key a b t))

pub key_cases : (a b : List ℕ) → (a ≡ b) ⊎ (a ≢ b)
key_cases a b =
    elim (eq_by_cmp bytes_cmp a b) as (λ t. eq_by_cmp bytes_cmp a b ≡ t → (a ≡ b) ⊎ (a ≢ b)) [
      | true ↦ λ t. inl (same_key a b t)
      | false ↦ λ t. inr (λ e. absurd (true≢false (sym (own_key a) ∙ ap (eq_by_cmp bytes_cmp a) e ∙ t)))
    ] refl

pub same_id : (a b : ℤ) → ◌≡◌ {A = Value} (Int a) (Int b) → a ≡ b
same_id a b e = cc

-- ---- maps

got_here : (m : CellMap) (k v : List ℕ) → map.get (map.insert m k v) k ≡ Some v
got_here m k v = map.get-insert nat_list_cmp_total m k v k ∙ ap (λ b. cond b (Some v) (map.get m k)) (own_key k)

got_other : (m : CellMap) (k v q : List ℕ) → q ≢ k → map.get (map.insert m k v) q ≡ map.get m q
got_other m k v q ne = map.get-insert nat_list_cmp_total m k v q ∙ ap (λ b. cond b (Some v) (map.get m q)) (other_key q k ne)

gone_here : (m : CellMap) (k : List ℕ) → map.get (map.remove m k) k ≡ None
gone_here m k = map.get-remove nat_list_cmp_total m k k ∙ ap (λ b. cond b None (map.get m k)) (own_key k)

left_other : (m : CellMap) (k q : List ℕ) → q ≢ k → map.get (map.remove m k) q ≡ map.get m q
left_other m k q ne = map.get-remove nat_list_cmp_total m k q ∙ ap (λ b. cond b None (map.get m q)) (other_key q k ne)

-- ---- no rows

abbrev pub no_cells : CellMap
no_cells = map.empty

never_got : (q v : List ℕ) → map.get no_cells q ≡ Some v → ⊥
never_got q v got = let none : map.get no_cells q ≡ None = map.get-empty bytes_cmp q in cc

pub none_are : AreCells [] no_cells
none_are = record { cells = λ row h. absurd h; there = λ ident val got. absurd (never_got ident val got) }

pub holds_none : Holds [] no_cells
holds_none = record {
  are = none_are;
  apart = λ a b h k e. absurd h;
  single = λ a b h k e. absurd h;
}

-- ---- one row is put

pub record IsPut (old new : List Row) (k v : List ℕ) : Type 0 where
  pub id : ℤ
  pub here : Has new (cell_row id k v)
  pub back : (x : Row) → Has new x → (x ≡ cell_row id k v) ⊎ (Has old x × (column x 1 ≢ Bytes k) × (rowid x ≢ Int id))
  pub kept : (x : Row) → Has old x → column x 1 ≢ Bytes k → Has new x

pub record IsDropped (old new : List Row) (k : List ℕ) : Type 0 where
  pub back : (x : Row) → Has new x → Has old x × (column x 1 ≢ Bytes k)
  pub kept : (x : Row) → Has old x → column x 1 ≢ Bytes k → Has new x

-- a row of another key has another key
keyed_other : (m : CellMap) (x : Row) (k : List ℕ) (c : IsCellOf m x) → column x 1 ≢ Bytes k → c.ident ≢ k
keyed_other m x k c ne e = ne (ap (λ (r : Row). column r 1) c.is ∙ ap (λ (b : List ℕ). Bytes b) e)

module _ (old new : List Row) (m : CellMap) (k v : List ℕ) (are : AreCells old m) (p : IsPut old new k v) where
  put_cell : (x : Row) → Has new x → IsCellOf (map.insert m k v) x
  put_cell x h = elim (p.back x h) [
    | inl same ↦ record { id = p.id; ident = k; val = v; is = same; held = got_here m k v }
    | inr before ↦ let c = are.cells x before.0 in record { id = c.id; ident = c.ident; val = c.val; is = c.is; held = got_other m k v c.ident (keyed_other m x k c before.1) ∙ c.held }
  ]

  put_there : (ident val : List ℕ) → map.get (map.insert m k v) ident ≡ Some val → (id : ℤ) × Has new (cell_row id ident val)
  put_there ident val got = elim (key_cases ident k) [
    | inl same ↦
        let value : v ≡ val = let h = got_here m k v in let g = ap (map.get (map.insert m k v)) same in cc in
        (p.id, subst (λ (b : List ℕ). Has new (cell_row p.id b val)) (sym same) (subst (λ (b : List ℕ). Has new (cell_row p.id k b)) value p.here))
    | inr other ↦
        let row = are.there ident val (sym (got_other m k v ident other) ∙ got) in
        (row.0, p.kept (cell_row row.0 ident val) row.1 (λ e. other (same_bytes ident k e)))
  ]

  pub put_are : AreCells new (map.insert m k v)
  put_are = record { cells = put_cell; there = put_there }

module _ (old new : List Row) (m : CellMap) (k v : List ℕ) (holds : Holds old m) (p : IsPut old new k v) where
  put_apart : (a b : Row) → Has new a → Has new b → rowid a ≡ rowid b → a ≡ b
  put_apart a b ha hb e = elim (p.back a ha) [
    | inl sa ↦ elim (p.back b hb) [
      | inl sb ↦ sa ∙ sym sb
      | inr ob ↦ absurd (ob.2 (sym e ∙ ap rowid sa))
    ]
    | inr oa ↦ elim (p.back b hb) [
      | inl sb ↦ absurd (oa.2 (e ∙ ap rowid sb))
      | inr ob ↦ holds.apart a b oa.0 ob.0 e
    ]
  ]

  put_single : (a b : Row) → Has new a → Has new b → column a 1 ≡ column b 1 → a ≡ b
  put_single a b ha hb e = elim (p.back a ha) [
    | inl sa ↦ elim (p.back b hb) [
      | inl sb ↦ sa ∙ sym sb
      | inr ob ↦ absurd (ob.1 (sym e ∙ ap (λ (r : Row). column r 1) sa))
    ]
    | inr oa ↦ elim (p.back b hb) [
      | inl sb ↦ absurd (oa.1 (e ∙ ap (λ (r : Row). column r 1) sb))
      | inr ob ↦ holds.single a b oa.0 ob.0 e
    ]
  ]

  pub put_holds : Holds new (map.insert m k v)
  put_holds = record { are = put_are old new m k v holds.are p; apart = put_apart; single = put_single }

module _ (old new : List Row) (m : CellMap) (k : List ℕ) (holds : Holds old m) (p : IsDropped old new k) where
  drop_cell : (x : Row) → Has new x → IsCellOf (map.remove m k) x
  drop_cell x h =
      let before = p.back x h in
      let c = holds.are.cells x before.0 in
      record { id = c.id; ident = c.ident; val = c.val; is = c.is; held = left_other m k c.ident (keyed_other m x k c before.1) ∙ c.held }

  drop_got : (ident val : List ℕ) → map.get (map.remove m k) ident ≡ Some val → (ident ≢ k) × (map.get m ident ≡ Some val)
  drop_got ident val got = elim (key_cases ident k) [
    | inl same ↦ absurd (let none = gone_here m k in let g = ap (map.get (map.remove m k)) same in cc)
    | inr other ↦ (other, sym (left_other m k ident other) ∙ got)
  ]

  drop_there : (ident val : List ℕ) → map.get (map.remove m k) ident ≡ Some val → (id : ℤ) × Has new (cell_row id ident val)
  drop_there ident val got =
      let was = drop_got ident val got in
      let row = holds.are.there ident val was.1 in
      (row.0, p.kept (cell_row row.0 ident val) row.1 (λ e. was.0 (same_bytes ident k e)))

  pub drop_holds : Holds new (map.remove m k)
  drop_holds = record {
    are = record { cells = drop_cell; there = drop_there };
    apart = λ a b ha hb e. holds.apart a b (p.back a ha).0 (p.back b hb).0 e;
    single = λ a b ha hb e. holds.single a b (p.back a ha).0 (p.back b hb).0 e;
  }

-- ---- rowids

pub tied_id : (a b : ℤ) → is_eq (value_cmp (Int a) (Int b)) ≡ true → a ≡ b
tied_id a b t = map.int_cmp-IsAntisymmetric a b (is_equal (int_cmp a b) (ap is_eq (sym (value_cmp-Int a b)) ∙ t))

pub own_id : (x : Row) (id : ℤ) → rowid x ≡ Int id → has_rowid id x ≡ true
own_id x id e = ap (λ (v : Value). is_eq (value_cmp v (Int id))) e ∙ ap is_eq (tied_itself value_cmp_total (Int id))

has_id : (m : CellMap) (x : Row) (id : ℤ) → IsCellOf m x → has_rowid id x ≡ true → rowid x ≡ Int id
has_id m x id c t =
    let is : rowid x ≡ Int c.id = ap (λ (r : Row). rowid r) c.is in
    is ∙ ap (λ (n : ℤ). Int n) (tied_id c.id id (ap (λ (v : Value). is_eq (value_cmp v (Int id))) (sym is) ∙ t))

pub left_not : (ids : List ℤ) (rows : List Row) (x : Row) (id : ℤ) → Has (without_all rows ids) x → Has ids id → has_rowid id x ≡ false
left_not [] rows x id h k = absurd k
left_not (i ∷ ids) rows x id h (inl same) =
    let f = has_filtered (λ r. not (has_rowid i r)) rows x (without_all_has ids (without_rowid i rows) x h) in
    subst (λ (z : ℤ). has_rowid z x ≡ false) (sym same) (not-true _ f.1)
left_not (i ∷ ids) rows x id h (inr later) = left_not ids (without_rowid i rows) x id h later

pub left_has : (ids : List ℤ) (rows : List Row) (x : Row) → Has rows x → ((id : ℤ) → Has ids id → has_rowid id x ≡ false) → Has (without_all rows ids) x
left_has [] rows x h none = h
left_has (i ∷ ids) rows x h none =
    left_has ids (without_rowid i rows) x (has_kept (λ r. not (has_rowid i r)) rows x h (ap not (none i (inl refl)))) (λ id k. none id (inr k))

-- ---- the rows that a key has are taken out

pub rows_dropped : (table : List Row) (m : CellMap) (k : List ℕ) (ids : List ℤ) → Holds table m
    → ((id : ℤ) → Has ids id → (r : Row) × Has table r × (column r 1 ≡ Bytes k) × (rowid r ≡ Int id))
    → ((r : Row) → Has table r → column r 1 ≡ Bytes k → (id : ℤ) → rowid r ≡ Int id → Has ids id)
    → IsDropped table (without_all table ids) k
rows_dropped table m k ids holds sound complete = record {
  back = λ x h.
      let has = without_all_has ids table x h in (
        has,
        λ e.
            let c = holds.are.cells x has in
            let id : rowid x ≡ Int c.id = ap (λ (r : Row). rowid r) c.is in
            absurd (true≢false (sym (own_id x c.id id) ∙ left_not ids table x c.id h (complete x has e c.id id))),
      );
  kept = λ x h ne. left_has ids table x h (λ id k'. false_from_ne_true _ (λ t.
      let s = sound id k' in
      let same = holds.apart x s.0 h s.1 (has_id m x id (holds.are.cells x h) t ∙ sym s.3) in
      ne (ap (λ (r : Row). column r 1) same ∙ s.2)));
}

-- ---- a row is put in, in place of those that its key had

fresh_apart : (news rows : List Row) (n x : Row) → are_fresh rows news ≡ true → Has news n → Has rows x → is_eq (value_cmp (rowid x) (rowid n)) ≡ false
fresh_apart [] rows n x fresh h k = absurd h
fresh_apart (r ∷ news) rows n x fresh (inl same) k =
    false_from_ne_true _ (λ t.
    let free : is_taken rows r ≡ false = not-true _ (and_parts _ _ fresh).0 in
    let tied = subst (λ (z : Row). is_eq (value_cmp (rowid x) (rowid z)) ≡ true) same t in
    absurd (true≢false (sym (some_from (λ (z : Row). is_eq (value_cmp (rowid z) (rowid r))) rows x k tied) ∙ free)))
fresh_apart (r ∷ news) rows n x fresh (inr later) k =
    let one : are_fresh rows (r ∷ []) ≡ true = ap (λ b. b && true) (and_parts _ _ fresh).0 in
    fresh_apart news (put_row r rows) n x (and_parts _ _ fresh).1 later (put_all_keeps (r ∷ []) rows x one k)

pub rows_put : (table : List Row) (m : CellMap) (k v : List ℕ) (id : ℤ) (ids : List ℤ) (news : List Row) → Holds table m
    → are_fresh (without_all table ids) news ≡ true
    → ((x : Row) → Has news x → x ≡ cell_row id k v) → Has news (cell_row id k v)
    → ((r : Row) → Has table r → column r 1 ≡ Bytes k → Has ids id × (rowid r ≡ Int id))
    → ((i : ℤ) → Has ids i → (r : Row) → Has table r → rowid r ≡ Int i → column r 1 ≡ Bytes k)
    → IsPut table (put_all (without_all table ids) news) k v
rows_put table m k v id ids news holds fresh each some gone own =
    let new = cell_row id k v in
    record {
      id = id;
      here = put_all_adds news (without_all table ids) new fresh some;
      back = λ x h. elim (put_all_has news (without_all table ids) x h) [
        | inl is ↦ inl (each x is)
        | inr left ↦
            let has = without_all_has ids table x left in
            let free : rowid x ≢ Int id = λ e. absurd (true≢false (sym (own_id x id e) ∙ fresh_apart news (without_all table ids) new x fresh some left)) in
            inr (has, (λ e. free (gone x has e).1), free)
      ];
      kept = λ x h ne. put_all_keeps news (without_all table ids) x fresh (left_has ids table x h (λ i k'. false_from_ne_true _ (λ t.
          ne (own i k' x h (has_id m x i (holds.are.cells x h) t)))));
    }
