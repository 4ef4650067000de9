-- What the insertion makes of the cells that the rows of the table hold.
use Rattle.std.proofs.Common.{◌≡◌, ◌≢◌, ℕ, ℤ, Bool, true, false, cond, ◌&&◌, ◌||◌, List, [], ◌∷◌, map, drop, Option, Some, None, Ok, Err, Result, refl, sym, ap, subst, ◌∙◌, inl, inr}
use Rattle.std.specs.List.{list_all}
use Rattle.std.specs.Ordering.{is_eq, eq_by_cmp}
use Rattle.std.specs.Cmp.{tied_itself}
use Rattle.std.specs.FinMap as map
use Rattle.sqlite_value.specs.declared.value.Value.{Value}
use Rattle.sqlite_value.specs.declared.value.Value.TheVariants.{Null, Int, Blob as Bytes}
use Rattle.sqlite_value.specs.declared.keys.Collation.TheVariants.{Binary}
use Rattle.sqlite_value.specs.Order.{Row, column, value_cmp}
use Rattle.sqlite_value.proofs.OrderLemmas.{value_cmp_total, value_cmp-Blob}
use Rattle.sqlite_value.proofs.KeyLemmas.{first_key-plain}
use Rattle.sqlite_trees.specs.Tree.{Trees, rowid}
use Rattle.sqlite_sql.specs.Ops.{binary, unary}
use Rattle.sqlite_sql.specs.Term.{holds, col}
use Rattle.sqlite_schema.specs.declared.schema.Keys.{Keys}
use Rattle.sqlite_schema.specs.declared.schema.Kind.TheVariants.{Integer}
use Rattle.sqlite_schema.specs.declared.command.Command.TheVariants.{InsertOr}
use Rattle.sqlite_schema.specs.declared.command.Conflict.TheVariants.{Abort}
use Rattle.sqlite_schema.specs.declared.command.Source.TheVariants.{Values}
use Rattle.sqlite_schema.specs.Rules.{equal}
use Rattle.sqlite_rules.specs.Lists.{Has}
use Rattle.sqlite_rules.specs.Calls.{ids_of}
use Rattle.sqlite_rules.specs.Cast.{cast, cast_row}
use Rattle.sqlite_rules.specs.Keys.{conflicts, AreConflicts}
use Rattle.sqlite_rules.specs.Edit.{Edit, edit_of, id_in, next_rowid, with_rowid, without_all, put_all, are_fresh, numbered, Applies}
use Rattle.sqlite_rules.specs.declared.error.Rowids.TheVariants.{Given, Chosen}
use Rattle.sqlite_rules.specs.declared.error.Refusal.{Refusal}
use Rattle.sqlite_rules.proofs.ProbeLemmas.{has_mapped, mapped_has}
use Rattle.sqlite.specs.Effect.{Database}
use Rattle.sqlite.specs.Does.{Tally, Does}
use Rattle.sqlite.specs.Rows.{TriesEach, nothing, count_of, Written, Task, Puts, Clears, Meets, Upserts, Judged, Tries, Updates}
use Rattle.sqlite.specs.State.{State, mode_of, Executes}
use Rattle.sqlite.specs.Listing.{understood}
use Rattle.sqlite.proofs.Callers.{statement_of, runs_as, one_step}
use Rattle.off_sqlcells.specs.Office.{office, office_schema, cell_row}
use Rattle.off_cells.specs.CellsSeen.{CellMap}
use Rattle.off_sqlcells.specs.Statements.{put_text}
use Rattle.off_sqlcells.specs.Holds.{IsCellOf, Holds}
use Rattle.off_sqlcells.proofs.Texts.{has_rowid_given, put_query, put_terms, upsert, alone, put_is, put_plain}
use Rattle.off_sqlcells.specs.OneMap.{same_bytes}
use Rattle.off_cells.proofs.SortedLemmas.{bytes_cmp, same_key}
use Rattle.off_sqlcells.proofs.RowLemmas.{own_key, tied_id, put_holds, rows_put, IsPut}
use Rattle.off_sqlcells.proofs.AnswerLemmas.{shown_sound, shown_complete, rowid_test, truth_test}
use Rattle.off_sqlcells.proofs.Content.{went, same_value}

-- ---- values that are cast

either : (b : Bool) (x : Value) → cond b x x ≡ x
either true x = refl
either false x = refl

cast_null : cast Integer Null ≡ Null
unfolding unary
cast_null = either _ Null

cast_int : (n : ℤ) → cast Integer (Int n) ≡ Int n
unfolding unary
cast_int n = either _ (Int n)

cast_cell : (id : ℤ) (i v : List ℕ) → cast_row office (cell_row id i v) ≡ cell_row id i v
cast_cell id i v = ap (λ (x : Value). x ∷ Bytes i ∷ Bytes v ∷ []) (cast_int id)

-- ---- conflicts

some_alone : (b : Bool) → (false || (b || false)) ≡ b
some_alone true = refl
some_alone false = refl

pub bytes_equal : (i k : List ℕ) → (equal Binary (Bytes i) (Bytes k) && true) ≡ eq_by_cmp bytes_cmp i k
unfolding binary
bytes_equal i k = truth_test (is_eq (value_cmp (Bytes i) (Bytes k))) ∙ ap is_eq (value_cmp-Blob i k)

conflict_is : (n id : ℤ) (k w i v : List ℕ) → conflicts (Some (1 ∷ [])) office_schema.indexes office (cell_row n k w) (cell_row id i v) ≡ eq_by_cmp bytes_cmp i k
conflict_is n id k w i v = rw first_key-plain (some_alone _ ∙ bytes_equal i k)

never_conflicts : (n : ℤ) (k w : List ℕ) (m : CellMap) (r : Row) → IsCellOf m r → column r 1 ≡ Bytes k
    → conflicts (Some (1 ∷ [])) office_schema.indexes office (cell_row n k w) r ≡ true
never_conflicts n k w m r c e =
    let key : c.ident ≡ k = same_bytes c.ident k (sym (ap (λ (x : Row). column x 1) c.is) ∙ e) in
    ap (conflicts (Some (1 ∷ [])) office_schema.indexes office (cell_row n k w)) c.is ∙ conflict_is n c.id k w c.ident c.val ∙ ap (λ (b : List ℕ). eq_by_cmp bytes_cmp b k) key ∙ own_key k

conflict_key : (n : ℤ) (k w : List ℕ) (m : CellMap) (r : Row) (c : IsCellOf m r) → conflicts (Some (1 ∷ [])) office_schema.indexes office (cell_row n k w) r ≡ true → c.ident ≡ k
conflict_key n k w m r c t =
    same_key c.ident k (sym (conflict_is n c.id k w c.ident c.val) ∙ sym (ap (conflicts (Some (1 ∷ [])) office_schema.indexes office (cell_row n k w)) c.is) ∙ t)

numbered_given : (news rows : List Row) → numbered Given rows news ≡ news
numbered_given [] rows = refl
numbered_given (r ∷ rs) rows = ap (λ (x : List Row). r ∷ x) (numbered_given rs _)

module _ (limit : Option ℕ) (keys : Keys) (k v : List ℕ) (db : Trees) (m : CellMap) (h : Holds (db 0) m) (n : ℤ) where
  abbrev params : Row
  params = Bytes k ∷ Bytes v ∷ []

  abbrev task : Task
  task = record { limit = limit; keys = keys; schema = office_schema; table = office; params = params }

  -- where no row has the key, the row is put in
  put_new : (one : Written) → ((r : Row) → Has (db 0) r → column r 1 ≢ Bytes k) → Puts task (cell_row n k v) db (Ok one) → IsPut (db 0) (one.trees 0) k v
  put_new one none puts =
      let made = went puts in
      let edit : Edit = edit_of db office [] Given 0 (cell_row n k v ∷ []) in
      let news : edit.news ≡ cell_row n k v ∷ [] = ap (λ (x : Row). x ∷ []) (cast_cell n k v) in
      let applied : Applies office_schema keys db edit made.0 = one_step office_schema keys db made.0 edit refl made.1 in
      let path : one.trees 0 ≡ put_all (db 0) (cell_row n k v ∷ []) =
      ap (λ (t : Trees). t 0) (ap (λ (it : Written). it.trees) (same_value made.2)) ∙ applied.rows ∙ ap (put_all (db 0)) news in
      subst (λ (t : List Row). IsPut (db 0) t k v) (sym path)
      (rows_put (db 0) m k v n [] (cell_row n k v ∷ []) h (subst (λ (l : List Row). are_fresh (db 0) l ≡ true) news applied.fresh)
      (λ x has. elim has [ inl same ↦ same | inr never ↦ absurd never ]) (inl refl) (λ r has e. absurd (none r has e)) (λ i never r has e. absurd never))

  put_cleared : (one : Written) (found : List Row) → ((r : Row) → Has (db 0) r → column r 1 ≢ Bytes k) → Clears task Abort (cell_row n k v) db found (Ok one) → IsPut (db 0) (one.trees 0) k v
  put_cleared one [] none clears = put_new one none clears
  put_cleared one (x ∷ more) none clears = put_new one none clears

  -- where one has it, that row gets the value
  abbrev old_params : Value → Row
  old_params there = Bytes k ∷ Bytes v ∷ there ∷ Int n ∷ Bytes k ∷ Bytes v ∷ []

  abbrev passes : ℤ → Row → Bool
  passes id r = list_all (holds (old_params (Int id) ∷ r ∷ [])) (has_rowid_given ∷ [])

  abbrev shows : Row → Row
  shows r = rowid r ∷ rowid r ∷ column r 1 ∷ Bytes v ∷ []

  put_there : (one : Written) (id : ℤ) (r : Row) → Has (db 0) r → column r 1 ≡ Bytes k → rowid r ≡ Int id → Updates task (alone put_query) (old_params (Int id)) db (Ok one)
      → IsPut (db 0) (one.trees 0) k v
  put_there one id r has key own updates =
      let asked = went updates in
      let made = went asked.2 in
      let rows = asked.0 in
      let a = asked.1.answer Null in
      let edit : Edit = edit_of db office (ids_of rows) Given 1 rows in
      let written : List Row = map (λ (s : Row). cast_row office (drop 1 s)) rows in
      let news : edit.news ≡ written = numbered_given written _ in
      let applied : Applies office_schema keys db edit made.0 = one_step office_schema keys db made.0 edit refl made.1 in
      let path : one.trees 0 ≡ put_all (without_all (db 0) (ids_of rows)) written =
      ap (λ (t : Trees). t 0) (ap (λ (it : Written). it.trees) (same_value made.2)) ∙ applied.rows ∙ ap (put_all (without_all (db 0) (ids_of rows))) news in
      let found : (x : Row) → Has rows x → x ≡ Int id ∷ Int id ∷ Bytes k ∷ Bytes v ∷ [] = λ x there.
      let s = shown_sound (has_rowid_given ∷ []) (col 1 0 ∷ col 1 0 ∷ col 1 1 ∷ col 0 5 ∷ []) db (old_params (Int id)) rows a x there in
      let c = h.are.cells s.0 s.1 in
      let tied : is_eq (value_cmp (Int c.id) (Int id)) ≡ true = sym (rowid_test k v c.id id c.ident c.val (Int n ∷ Bytes k ∷ Bytes v ∷ [])) ∙ sym (ap (passes id) c.is) ∙ s.2 in
      let same : s.0 ≡ r = h.apart s.0 r s.1 has (ap (λ (y : Row). rowid y) c.is ∙ ap (λ (z : ℤ). Int z) (tied_id c.id id tied) ∙ sym own) in
      s.3 ∙ ap shows same ∙ (λ i. own i ∷ own i ∷ key i ∷ Bytes v ∷ []) in
      let mine : Has rows (Int id ∷ Int id ∷ Bytes k ∷ Bytes v ∷ []) =
      let c = h.are.cells r has in
      let is_id : Int c.id ≡ Int id = sym (ap (λ (y : Row). rowid y) c.is) ∙ own in
      let passing : passes id r ≡ true =
      ap (passes id) c.is ∙ rowid_test k v c.id id c.ident c.val (Int n ∷ Bytes k ∷ Bytes v ∷ [])
      ∙ ap (λ (z : Value). is_eq (value_cmp z (Int id))) is_id ∙ ap is_eq (tied_itself value_cmp_total (Int id)) in
      subst (Has rows) (λ i. own i ∷ own i ∷ key i ∷ Bytes v ∷ [])
      (shown_complete (has_rowid_given ∷ []) (col 1 0 ∷ col 1 0 ∷ col 1 1 ∷ col 0 5 ∷ []) db (old_params (Int id)) rows a r has passing) in
      let only : (i : ℤ) → Has (ids_of rows) i → i ≡ id = λ i there.
      let x = has_mapped (λ (y : Row). id_in (rowid y)) rows i there in x.2 ∙ ap (λ (y : Row). id_in (rowid y)) (found x.0 x.1) in
      subst (λ (t : List Row). IsPut (db 0) t k v) (sym path)
      (rows_put (db 0) m k v id (ids_of rows) written h (subst (λ (l : List Row). are_fresh (without_all (db 0) (ids_of rows)) l ≡ true) news applied.fresh)
      (λ x there.
      let y = has_mapped (λ (s : Row). cast_row office (drop 1 s)) rows x there in
      y.2 ∙ ap (λ (s : Row). cast_row office (drop 1 s)) (found y.0 y.1) ∙ cast_cell id k v)
      (subst (Has written) (cast_cell id k v) (mapped_has (λ (s : Row). cast_row office (drop 1 s)) rows (Int id ∷ Int id ∷ Bytes k ∷ Bytes v ∷ []) mine))
      (λ x there e.
      let same : x ≡ r = h.single x r there has (e ∙ sym key) in
      (mapped_has (λ (y : Row). id_in (rowid y)) rows (Int id ∷ Int id ∷ Bytes k ∷ Bytes v ∷ []) mine, ap (λ (y : Row). rowid y) same ∙ own))
      (λ i there x at e.
      let same : x ≡ r = h.apart x r at has (e ∙ ap (λ (z : ℤ). Int z) (only i there) ∙ sym own) in
      ap (λ (y : Row). column y 1) same ∙ key))

  put_met : (one : Written) (found : List Row) → AreConflicts (Some (1 ∷ [])) office_schema.indexes office (db 0) (cell_row n k v) found
      → Meets task (Upserts task Abort (cell_row n k v) db []) (cell_row n k v) db upsert found (Ok one) → IsPut (db 0) (one.trees 0) k v
  put_met one [] are meets = put_cleared one meets.0 (λ r has e. are.complete r has (never_conflicts n k v m r (h.are.cells r has) e)) meets.2
  put_met one (there ∷ more) are meets =
      let s = are.sound there (inl refl) in
      let c = h.are.cells s.0 s.1 in
      let own : rowid s.0 ≡ Int c.id = ap (λ (y : Row). rowid y) c.is in
      let id : rowid there ≡ Int c.id = ap (λ (y : Row). rowid y) s.3 ∙ own in
      put_there one c.id s.0 s.1 (ap (λ (y : Row). column y 1) c.is ∙ ap (λ (b : List ℕ). Bytes b) (conflict_key n k v m s.0 c s.2)) own
      (subst (λ (z : Value). Updates task (alone put_query) (old_params z) db (Ok one)) id meets)

  put_judged : (one : Written) (verdict : Option Refusal) → Judged task Abort (upsert ∷ []) (cell_row n k v) db verdict (Ok one) → IsPut (db 0) (one.trees 0) k v
  put_judged one None judged = put_met one judged.0 judged.1 judged.2
  put_judged one (Some why) judged = absurd (let e : ◌≡◌ {A = Result Written _} (Ok one) (Err _) = judged in cc)

  put_tried : (one : Written) → Tries task Abort (upsert ∷ []) (cell_row n k v) db (Ok one) → IsPut (db 0) (one.trees 0) k v
  put_tried one (inl refused) = absurd (let e = refused.1 in cc)
  put_tried one (inr tried) = put_judged one tried.0 tried.2

pub puts : (old new : State) (k v : List ℕ) (count : ℕ) (m : CellMap) → old.now.schema ≡ office_schema → Holds (old.now.trees 0) m
    → Executes put_text (Bytes k ∷ Bytes v ∷ []) old new (Ok count) → (new.now.schema ≡ office_schema) × Holds (new.now.trees 0) (map.insert m k v)
puts old new k v count m has h ran =
    let params = Bytes k ∷ Bytes v ∷ [] in
    let db = old.now.trees in
    let command = InsertOr 0 Abort (Values put_terms 3) (upsert ∷ []) in
    let w = runs_as put_text params old new office_schema has command put_is put_plain count ran in
    let text = statement_of put_text (understood office_schema put_text) in
    let done = went (subst (λ s. Does old.step_limit (mode_of old) params (record old.now { schema = s }) text None command (Ok (w.tally, new.now))) has w.changed) in
    let now = ap (λ (p : Tally × Database). p.1) (same_value (went (went done.2).2).2) in
    let given = went done.1 in
    let counter = went given.2 in
    let tried = went counter.2 in
    let after = went tried.2 in
    let keys = (mode_of old).keys in
    let task : Task = record { limit = old.step_limit; keys = keys; schema = office_schema; table = office; params = params } in
    let top : ℤ = count_of counter.0 in
    let each : TriesEach task Abort (upsert ∷ []) ((Null ∷ Bytes k ∷ Bytes v ∷ []) ∷ []) top (nothing db) (Ok tried.0) =
    subst (λ (rows : List Row). TriesEach task Abort (upsert ∷ []) rows top (nothing db) (Ok tried.0)) given.1.1 tried.1 in
    let one = went each in
    let made : Tries task Abort (upsert ∷ []) (cell_row (next_rowid (db 0)) k v) db (Ok one.0) =
    subst (λ (x : Value). Tries task Abort (upsert ∷ []) (with_rowid Chosen (db 0) (x ∷ Bytes k ∷ Bytes v ∷ [])) db (Ok one.0)) cast_null one.1 in
    let put : IsPut (db 0) (one.0.trees 0) k v = put_tried old.step_limit keys k v db m h (next_rowid (db 0)) one.0 made in
    let joined_is : tried.0.0.trees ≡ one.0.trees = ap (λ (p : Written × ℤ). p.0.trees) (same_value one.2) in
    let counted : after.0 ≡ tried.0.0.trees = same_value after.1 in
    let ended : done.0.trees ≡ after.0 = ap (λ (it : Written). it.trees) (same_value after.2) in
    let path : new.now.trees 0 ≡ one.0.trees 0 = ap (λ (d : Database). d.trees 0) now ∙ ap (λ (t : Trees). t 0) (ended ∙ counted ∙ joined_is) in (
      ap (λ (d : Database). d.schema) now,
      subst (λ (t : List Row). Holds t (map.insert m k v)) (sym path) (put_holds (db 0) (one.0.trees 0) m k v h put),
    )
