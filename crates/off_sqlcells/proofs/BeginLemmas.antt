-- The table that is made, and the one that was there.
use Rattle.std.proofs.Common.{inl, inr, ◌≡◌, ℕ, List, [], Ok, Result, None, IsTrue, Bool, true, false, not, refl, sym, ap, subst, ◌∙◌}
use Rattle.std.specs.FinMap as map
use Rattle.std.specs.Fmt.{digits}
use Rattle.sqlite_value.specs.Order.{Row}
use Rattle.sqlite_trees.specs.Tree.{Trees}
use Rattle.sqlite_trees.specs.declared.store.Store.{Ghosts}
use Rattle.sqlite_schema.specs.declared.command.Command.TheVariants.{CreateTable, Nothing}
use Rattle.sqlite_schema.specs.declared.schema.Table.{Table}
use Rattle.sqlite_catalog.specs.Change.{created, next_tree}
use Rattle.sqlite_catalog.specs.Listing.{IsSound}
use Rattle.sqlite_resolve.specs.declared.error.CompileError.{CompileError}
use Rattle.sqlite.specs.Does.{Tally, lacks_sequence}
use Rattle.sqlite.specs.Effect.{Database}
use Rattle.sqlite.specs.Held.{Held, state}
use Rattle.sqlite.specs.State.{State, Writes, Executes, IsLive}
use Rattle.sqlite.proofs.Callers.{runs_as}
use Rattle.off_sqlcells.specs.Office.{office, no_schema, office_schema, IsOurs}
use Rattle.off_sqlcells.specs.Statements.{make_text}
use Rattle.off_sqlcells.specs.Holds.{Holds}
use Rattle.off_sqlcells.specs.InOrder.{IsInOrder, KeepsOrder}
use Rattle.off_sqlcells.specs.Stands.{IsSteady, Makes}
use Rattle.off_sqlcells.specs.SqlCellsSeen.{sql_seen, Found, HasBegun}
use Rattle.off_sqlcells.proofs.Texts.{make_is, make_plain, made_is, made_plain}
use Rattle.off_sqlcells.proofs.RowLemmas.{holds_none}
use Rattle.off_sqlcells.proofs.Content.{went, same_value}
use Rattle.off_sqlcells.proofs.FoundRows.{AreSound, cells_of, are_cells, sound_hold, committed_sound}

-- the table and the index of its key
created_is : created no_schema office ≡ office_schema
unfolding digits
created_is = refl

creates : (old new : State) (count : ℕ) → old.now.schema ≡ no_schema → Executes make_text [] old new (Ok count)
    → (new.now.schema ≡ office_schema) × (new.now.trees 0 ≡ []) × IsTrue new.is_open × (new.in_transaction ≡ old.in_transaction)
creates old new count has h =
    let w = subst (λ t. Writes old new None CreateTable t [] count) make_is.1 (runs_as make_text [] old new no_schema has CreateTable make_is.0 make_plain count h) in
    let all = went w.changed in
    let first = went all.1 in
    let made = first.1 in
    let both : ◌≡◌ {A = Result Table CompileError} (Ok made.table) (Ok office) = sym made.defined ∙ make_is.2 in
    let same : made.table ≡ office = cc in
    let schema : first.0.schema ≡ office_schema = made.is ∙ ap (λ s. created s made.table) has ∙ ap (created no_schema) same ∙ created_is in
    let plain = ap lacks_sequence schema in
    let now : new.now ≡ first.0 = ap (λ (p : Tally × Database). p.1) (same_value all.2) ∙ same_value (rw plain at first.2) in
    (ap (λ (d : Database). d.schema) now ∙ schema, ap (λ (d : Database). d.trees 0) now ∙ subst (λ s. first.0.trees (next_tree s) ≡ []) has made.empty, w.shown.is_open, w.shown.mode)

finds : (old new : State) (count : ℕ) → old.now.schema ≡ office_schema → Executes make_text [] old new (Ok count) → (new.now ≡ old.now) × IsTrue new.is_open × (new.in_transaction ≡ old.in_transaction)
finds old new count has h =
    let same = (runs_as make_text [] old new office_schema has Nothing made_is made_plain count h).0 in
    (same.0.now_is, same.0.is_open, same.0.mode)

pub makes : (old new : State) (count : ℕ) → Executes make_text [] old new (Ok count) → Makes old new
makes old new count h = record {
  made = λ has. let it = creates old new count has h in (it.0, it.1, it.2);
  found = λ has. let it = finds old new count has h in (it.0, it.1);
  mode = λ ours. elim ours [ inl has ↦ (creates old new count has h).3 | inr has ↦ (finds old new count has h).2 ];
}

-- a transaction was under way
pub under_way : {S : Type 0} (g : Ghosts S) (old new : Held S) (idle : Bool) → IsSteady g → (IsSteady g → Makes (state g old) (state g new)) → IsOurs (state g old).now.schema
    → idle ≡ false → idle ≡ not new.in_transaction → IsTrue old.in_transaction
under_way g old new idle steady makes ours is value =
    let inside : not new.in_transaction ≡ false = sym value ∙ is in
    sym ((makes steady).mode ours) ∙ not_idle new.in_transaction inside
  where
    not_idle : (b : Bool) → not b ≡ false → IsTrue b
    not_idle true e = refl
    not_idle false e = cc

in_none : (b : Bool) → true ≡ not b → b ≡ false
in_none true e = cc
in_none false e = refl

-- the table that the connection shows is the committed one, whose rows are cells
shown_sound : {S : Type 0} (g : Ghosts S) (new : Held S) → IsInOrder (g.view new.store) → IsLive (state g new) → IsTrue (state g new).is_open
    → (state g new).now ≡ (state g new).committed → (state g new).now.schema ≡ office_schema → AreSound ((state g new).now.trees 0)
shown_sound g new order live up settled schema =
    let sound : IsSound office_schema (state g new).now.trees = subst (λ s. IsSound s (state g new).now.trees) schema (live up).0 in
    let same : (state g new).now.trees ≡ (state g new).committed.trees = ap (λ (d : Database). d.trees) settled in
    subst (λ (t : Trees). AreSound (t 0)) (sym same) (committed_sound (g.view new.store) order (subst (IsSound office_schema) same sound))

module _ {S : Type 0} (g : Ghosts S) (old new : Held S) (orders : KeepsOrder g) (out : new.in_transaction ≡ false) (live : IsLive (state g new))
    (settled : IsTrue (state g new).is_open → (state g new).now ≡ (state g new).committed) where
  begun_found : IsSteady g → Makes (state g old) (state g new) → (state g old).now.schema ≡ office_schema → Found ((state g old).now.trees 0) (sql_seen g new 0 0)
  begun_found steady makes has =
      let found = makes.found has in
      let up = found.1 in
      let schema : (state g new).now.schema ≡ office_schema = ap (λ (d : Database). d.schema) found.0 ∙ has in
      let rows = (state g new).now.trees 0 in
      let sound = shown_sound g new (orders new.store up) live up (settled up) schema in
      let told : (sql_seen g new 0 0).cells (cells_of rows) =
      (steady, λ _. record { schema = schema; rows = sound_hold rows sound; settled = settled up; idle = out }) in
      subst (λ (d : Database). Found (d.trees 0) (sql_seen g new 0 0)) found.0
      (record { cells = cells_of rows; are = are_cells rows sound; told = told; up = (steady, up) })

pub begins : {S : Type 0} (g : Ghosts S) (old new : Held S) (idle : Bool) → KeepsOrder g → IsLive (state g new) → (IsSteady g → Makes (state g old) (state g new)) → idle ≡ true → idle ≡ not new.in_transaction
    → (IsTrue idle → IsTrue (state g new).is_open → (state g new).now ≡ (state g new).committed) → IsOurs (state g old).now.schema → HasBegun g old (sql_seen g new 0 0)
begins g old new idle orders live makes is value settled ours =
    let out : new.in_transaction ≡ false = in_none new.in_transaction (sym is ∙ value) in
    record {
      ours = ours;
      made = λ steady has.
          let made = (makes steady).made has in
          ((steady, λ up. record { schema = made.0; rows = subst (λ (t : List Row). Holds t map.empty) (sym made.1) holds_none; settled = settled is up; idle = out }), (steady, made.2));
      found = λ steady has. begun_found g old new orders out live (settled is) steady (makes steady) has;
      faults = refl;
      calls = refl;
    }
