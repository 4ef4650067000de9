-- What each statement makes of the cells that the rows of the table hold.
use Rattle.std.proofs.Common.{◌≡◌, ◌⊎◌, ℕ, ℤ, Bool, true, false, List, [], ◌∷◌, map, take, codes, Option, Some, None, Ok, Err, Result, refl, sym, ap, subst, ◌∙◌, inl, inr}
use Rattle.std.specs.List.{list_all, find as first_of_all}
use Rattle.std.specs.Ordering.{is_lt, is_gt, eq_by_cmp, ordering_reverse}
use Rattle.std.specs.Cmp.Lexicographic.{nat_list_cmp_total}
use Rattle.std.specs.declared.cmp.Ordering.{Ordering}
use Rattle.std.specs.declared.cmp.Ordering.TheVariants.{Less, Equal, Greater}
use Rattle.std.specs.FinMap as map
use Rattle.std.proofs.lemmas.Bool.{false_from_ne_true}
use Rattle.sqlite_value.specs.declared.value.Value.TheVariants.{Null, Int, Blob as Bytes}
use Rattle.sqlite_value.specs.Order.{Row, column, value_cmp}
use Rattle.sqlite_value.proofs.OrderLemmas.{value_cmp-Blob}
use Rattle.sqlite_trees.specs.Tree.{Trees, rowid}
use Rattle.sqlite_sql.specs.Term.{Term, holds, col}
use Rattle.std.specs.List.Sorted.{IsSortedBy}
use Rattle.sqlite_sql.specs.Query.{IsAnswer, Output, output, output_cmp}
use Rattle.sqlite_sql.specs.Program.{overlay}
use Rattle.sqlite_schema.specs.declared.command.Command.TheVariants.{Select, Delete}
use Rattle.sqlite_rules.specs.Lists.{Has}
use Rattle.sqlite_rules.specs.Calls.{ids_of}
use Rattle.sqlite_rules.specs.Edit.{edit_of, id_in, without_all}
use Rattle.sqlite_rules.specs.declared.error.Rowids.TheVariants.{Given}
use Rattle.sqlite_rules.proofs.ProbeLemmas.{has_mapped, mapped_has}
use Rattle.sqlite.specs.Effect.{Database}
use Rattle.sqlite.specs.Does.{Tally, Does}
use Rattle.sqlite.specs.Rows.{Written}
use Rattle.sqlite.specs.State.{State, mode_of, Executes, Shown}
use Rattle.sqlite.proofs.Callers.{statement_of, runs_as, reads_as, one_step}
use Rattle.sqlite.specs.Listing.{understood}
use Rattle.off_sqlcells.specs.Office.{office, office_schema, cell_row}
use Rattle.off_cells.specs.CellsSeen.{CellMap, is_behind}
use Rattle.off_sqlcells.specs.Statements.{get_text, first_text, next_text, drop_text, Gets, walk_text, walk_params, Nexts}
use Rattle.off_sqlcells.specs.Holds.{IsCellOf, Holds}
use Rattle.off_sqlcells.proofs.Texts.{has_ident, is_above, by_ident, get_query, walk_query, first_query, next_query, drop_query, alone, get_is, get_plain, first_is as first_is_read, first_plain, next_is, next_plain, drop_is, drop_plain}
use Rattle.off_sqlcells.specs.OneMap.{same_bytes}
use Rattle.off_cells.proofs.SortedLemmas.{bytes_cmp, same_key}
use Rattle.off_sqlcells.proofs.RowLemmas.{own_key, drop_holds, rows_dropped, IsDropped}
use Rattle.off_sqlcells.proofs.AnswerLemmas.{ordered_sound, ordered_complete, shown_sound, shown_complete, ident_test, above_test, first_least}
use Rattle.off_sqlcells.proofs.NextLemmas.{first_is, none_is, entry_has, entry_got}

-- ---- a row of a key

abbrev IsSortedOutput : List Term → List Output → Type 0
IsSortedOutput filter = IsSortedBy (λ x y. is_lt (output_cmp (walk_query filter) x y))

abbrev passes_for : List ℕ → Row → Row → Bool
passes_for k more r = list_all (holds ((Bytes k ∷ more) ∷ r ∷ [])) (has_ident ∷ [])

key_passes : (m : CellMap) (k : List ℕ) (more r : Row) → IsCellOf m r → column r 1 ≡ Bytes k → passes_for k more r ≡ true
key_passes m k more r c e =
    let key : c.ident ≡ k = same_bytes c.ident k (sym (ap (λ (x : Row). column x 1) c.is) ∙ e) in
    ap (passes_for k more) c.is ∙ ident_test k c.ident c.val c.id more ∙ ap (λ (b : List ℕ). eq_by_cmp bytes_cmp b k) key ∙ own_key k

passing_key : (m : CellMap) (k : List ℕ) (more r : Row) (c : IsCellOf m r) → passes_for k more r ≡ true → c.ident ≡ k
passing_key m k more r c t = same_key c.ident k (sym (ident_test k c.ident c.val c.id more) ∙ sym (ap (passes_for k more) c.is) ∙ t)

-- ---- get

get_none : (k : List ℕ) (m : CellMap) (o : Option (List ℕ)) → map.get m k ≡ o → ((v : List ℕ) → map.get m k ≡ Some v → ⊥) → map.get m k ≡ None
get_none k m None is never = is
get_none k m (Some v) is never = absurd (never v is)

get_rows : (db : Trees) (k : List ℕ) (m : CellMap) (rows : List Row) → Holds (db 0) m → IsAnswer get_query (overlay db []) (Bytes k ∷ []) rows → Gets k m rows
get_rows db k m [] h a = get_none k m (map.get m k) refl (λ v got.
    let row = h.are.there k v got in
    shown_complete (has_ident ∷ []) (col 1 2 ∷ []) db (Bytes k ∷ []) [] a (cell_row row.0 k v) row.1 (ident_test k k v row.0 [] ∙ own_key k))
get_rows db k m (x ∷ more) h a =
    let s = shown_sound (has_ident ∷ []) (col 1 2 ∷ []) db (Bytes k ∷ []) (x ∷ more) a x (inl refl) in
    let c = h.are.cells s.0 s.1 in
    (c.val, s.3 ∙ ap (λ (r : Row). (output get_query ((Bytes k ∷ []) ∷ r ∷ [])).1) c.is, ap (λ (b : List ℕ). map.get m b) (sym (passing_key m k [] s.0 c s.2)) ∙ c.held)

pub gets : (old new : State) (k : List ℕ) (rows : List Row) (m : CellMap) → old.now.schema ≡ office_schema → Holds (old.now.trees 0) m
    → Shown get_text (Bytes k ∷ []) old new rows → Gets k m rows
gets old new k rows m has h shows =
    get_rows old.now.trees k m rows h ((reads_as get_text (Bytes k ∷ []) old new office_schema has (Select (alone get_query) (codes "val" ∷ [])) get_is.0 get_plain get_is.1 rows shows).answer Null)

-- ---- next

abbrev NextsBy : (List ℕ × List ℕ → Bool) → CellMap → List Row → Type 0
NextsBy lies m [] = first_of_all lies (map.entries m) ≡ None
NextsBy lies m (x ∷ more) =
    (i : List ℕ) × (v : List ℕ) × (x ≡ Bytes i ∷ Bytes v ∷ []) × (first_of_all lies (map.entries m) ≡ Some (i, v))

turned : (o : Ordering) → is_gt (ordering_reverse o) ≡ is_lt o
turned Less = refl
turned Equal = refl
turned Greater = refl

gt_lt : (a b : List ℕ) → is_gt (bytes_cmp a b) ≡ is_lt (bytes_cmp b a)
gt_lt a b = ap is_gt (nat_list_cmp_total.antisymm a b) ∙ turned (bytes_cmp b a)

-- a query for the least of the cells that lie so
module _ (db : Trees) (params : Row) (filter : List Term) (lies : List ℕ × List ℕ → Bool) (m : CellMap) (rows : List Row)
    (tests : (id : ℤ) (c : List ℕ × List ℕ) → list_all (holds (params ∷ cell_row id c.0 c.1 ∷ [])) filter ≡ lies c)
    (h : Holds (db 0) m) (a : IsAnswer (walk_query filter) (overlay db []) params rows) where
  abbrev passes : Row → Bool
  passes r = list_all (holds (params ∷ r ∷ [])) filter

  abbrev shows : Row → Output
  shows r = output (walk_query filter) (params ∷ r ∷ [])

  sound : (o : Output) → Has a.ordered o → (r : Row) × Has (db 0) r × (passes r ≡ true) × (o ≡ shows r)
  sound o has = ordered_sound filter (col 1 1 ∷ col 1 2 ∷ []) by_ident next_query.limit db params rows a o has

  entry_shown : (c : List ℕ × List ℕ) → Has (map.entries m) c → lies c ≡ true → (id : ℤ) × Has a.ordered (shows (cell_row id c.0 c.1))
  entry_shown c has t =
      let row = h.are.there c.0 c.1 (entry_got m c has) in
      (row.0, ordered_complete filter (col 1 1 ∷ col 1 2 ∷ []) by_ident next_query.limit db params rows a (cell_row row.0 c.0 c.1) row.1 (tests row.0 c ∙ t))

  next_by : (ordered : List Output) → a.ordered ≡ ordered → rows ≡ take 1 (map (λ (o : Output). o.1) ordered) → NextsBy lies m rows
  next_by [] is cut =
      subst (NextsBy lies m) (sym cut) (none_is lies (map.entries m) (λ c has. false_from_ne_true _ (λ t.
      let s = entry_shown c has t in subst (λ (l : List Output). Has l (shows (cell_row s.0 c.0 c.1))) is s.1)))
  next_by (o ∷ os) is cut =
      let s = sound o (subst (λ (l : List Output). Has l o) (sym is) (inl refl)) in
      let c = h.are.cells s.0 s.1 in
      let at : o ≡ shows (cell_row c.id c.ident c.val) = s.3 ∙ ap shows c.is in
      let passing : lies (c.ident, c.val) ≡ true = sym (tests c.id (c.ident, c.val)) ∙ sym (ap passes c.is) ∙ s.2 in
      let least : (e : List ℕ × List ℕ) → Has (map.entries m) e → lies e ≡ true → is_lt (bytes_cmp e.0 c.ident) ≡ false = λ e has t.
      let there = entry_shown e has t in
      let low = first_least filter o os (subst (λ (l : List Output). IsSortedOutput filter l) is a.sorted) (shows (cell_row there.0 e.0 e.1)) (subst (λ (l : List Output). Has l (shows (cell_row there.0 e.0 e.1))) is there.1) in
      ap is_lt (sym (value_cmp-Blob e.0 c.ident)) ∙ ap (λ (z : Output). is_lt (value_cmp (Bytes e.0) (column z.0 0))) (sym at) ∙ low in
      subst (NextsBy lies m) (sym cut) (
        c.ident,
        c.val,
        ap (λ (z : Output). z.1) at,
        first_is lies (map.entries m) (c.ident, c.val) (map.entries_sorted m) (entry_has m c.ident c.val c.held) passing least,
      )

  pub next_rows : NextsBy lies m rows
  next_rows = next_by a.ordered refl a.shown

at_place : (place : Option (List ℕ)) (m : CellMap) (rows : List Row) → NextsBy (is_behind place) m rows → Nexts place m rows
at_place place m [] n = n
at_place place m (x ∷ more) n = n

pub nexts : (old new : State) (place : Option (List ℕ)) (rows : List Row) (m : CellMap) → old.now.schema ≡ office_schema → Holds (old.now.trees 0) m
    → Shown (walk_text place) (walk_params place) old new rows → Nexts place m rows
nexts old new None rows m has h shows =
    at_place None m rows
    (next_rows old.now.trees [] [] (is_behind None) m rows (λ id c. refl) h
    ((reads_as first_text [] old new office_schema has (Select (alone first_query) (codes "ident" ∷ codes "val" ∷ [])) first_is_read.0 first_plain first_is_read.1 rows shows).answer Null))
nexts old new (Some ident) rows m has h shows =
    at_place (Some ident) m rows
    (next_rows old.now.trees (Bytes ident ∷ []) (is_above ∷ []) (is_behind (Some ident)) m rows (λ id c. above_test ident c.0 c.1 id ∙ gt_lt c.0 ident) h
    ((reads_as next_text (Bytes ident ∷ []) old new office_schema has (Select (alone next_query) (codes "ident" ∷ codes "val" ∷ [])) next_is.0 next_plain next_is.1 rows shows).answer Null))

-- ---- a part that gave a value did not stop on the way

pub went : {B E R : Type 0} {b : B} {Stops : E → Type 0} → ((stop : E) × Stops stop × (Ok b ≡ Err stop)) ⊎ R → R
went (inl stopped) = absurd (let e = stopped.2 in cc)
went (inr on) = on

pub same_value : {B E : Type 0} {a b : B} → ◌≡◌ {A = Result B E} (Ok a) (Ok b) → a ≡ b
same_value e = cc

-- ---- drop

drop_rows : (db : Trees) (k : List ℕ) (m : CellMap) (rows : List Row) → Holds (db 0) m → IsAnswer drop_query (overlay db []) (Bytes k ∷ []) rows
    → IsDropped (db 0) (without_all (db 0) (ids_of rows)) k
drop_rows db k m rows h a =
    rows_dropped (db 0) m k (ids_of rows) h
    (λ id has.
    let x = has_mapped (λ (r : Row). id_in (rowid r)) rows id has in
    let s = shown_sound (has_ident ∷ []) (col 1 0 ∷ []) db (Bytes k ∷ []) rows a x.0 x.1 in
    let c = h.are.cells s.0 s.1 in
    let own : rowid s.0 ≡ Int c.id = ap (λ (r : Row). rowid r) c.is in
    let same : id ≡ c.id = x.2 ∙ ap (λ (r : Row). id_in (rowid r)) s.3 ∙ ap id_in own in
    (s.0, s.1, ap (λ (r : Row). column r 1) c.is ∙ ap (λ (b : List ℕ). Bytes b) (passing_key m k [] s.0 c s.2), own ∙ ap (λ (n : ℤ). Int n) (sym same)))
    (λ r has e id own.
    let there = shown_complete (has_ident ∷ []) (col 1 0 ∷ []) db (Bytes k ∷ []) rows a r has (key_passes m k [] r (h.are.cells r has) e) in
    subst (λ (n : ℤ). Has (ids_of rows) n) (ap id_in own) (mapped_has (λ (x : Row). id_in (rowid x)) rows (rowid r ∷ []) there))

pub drops : (old new : State) (k : List ℕ) (count : ℕ) (m : CellMap) → old.now.schema ≡ office_schema → Holds (old.now.trees 0) m
    → Executes drop_text (Bytes k ∷ []) old new (Ok count) → (new.now.schema ≡ office_schema) × Holds (new.now.trees 0) (map.remove m k)
drops old new k count m has h ran =
    let params = Bytes k ∷ [] in
    let db = old.now.trees in
    let command = Delete 0 (alone drop_query) in
    let w = runs_as drop_text params old new office_schema has command drop_is drop_plain count ran in
    let text = statement_of drop_text (understood office_schema drop_text) in
    let done = went (subst (λ s. Does old.step_limit (mode_of old) params (record old.now { schema = s }) text None command (Ok (w.tally, new.now))) has w.changed) in
    let now = ap (λ (p : Tally × Database). p.1) (same_value (went (went done.2).2).2) in
    let asked = went done.1 in
    let made = went asked.2 in
    let trees : done.0.trees ≡ made.0 = ap (λ (it : Written). it.trees) (same_value made.2) in
    let rows = (one_step office_schema _ db made.0 (edit_of db office (ids_of asked.0) Given 0 []) refl made.1).rows in
    let path : new.now.trees 0 ≡ without_all (db 0) (ids_of asked.0) = ap (λ (d : Database). d.trees 0) now ∙ ap (λ (t : Trees). t 0) trees ∙ rows in (
      ap (λ (d : Database). d.schema) now,
      subst (λ (t : List Row). Holds t (map.remove m k)) (sym path)
          (drop_holds (db 0) (without_all (db 0) (ids_of asked.0)) m k h (drop_rows db k m asked.0 h (asked.1.answer Null))),
    )
