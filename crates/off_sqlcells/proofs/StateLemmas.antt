-- What a connection tells after each call.
use Rattle.std.proofs.Common.{◌≡◌, ◌⊎◌, ℕ, false, List, [], ◌∷◌, Option, Some, None, Ok, Err, IsTrue, sym, ap, subst, ◌∙◌, inl, inr}
use Rattle.std.specs.FinMap as map
use Rattle.std.proofs.lemmas.Bool.{true≢false}
use Rattle.sqlite_value.specs.declared.value.Value.TheVariants.{Blob as Bytes}
use Rattle.sqlite_value.specs.Order.{Row}
use Rattle.sqlite_schema.specs.declared.command.Returning.{Returning}
use Rattle.sqlite_resolve.specs.declared.compiled.Compiled.{Compiled}
use Rattle.sqlite.specs.declared.error.Error.{Error}
use Rattle.sqlite.specs.Effect.{Database}
use Rattle.sqlite.specs.Clock.{timed}
use Rattle.sqlite.specs.Listing.{understood}
use Rattle.sqlite.specs.State.{State, IsUnchanged, IsRolledBack, IsNotRun, FailsToQuery, FailsToShow, RunsCommand, Shown, ShowsRows, ExecutesInside, Shows}
use Rattle.sqlite.specs.Steps.{FailsToCommit}
use Rattle.sqlite.proofs.Callers.{IsPlain}
use Rattle.off_cells.specs.CellsSeen.{CellMap}
use Rattle.off_sqlcells.specs.Office.{office_schema}
use Rattle.off_sqlcells.specs.Holds.{Holds}
use Rattle.off_sqlcells.specs.Stands.{Tells, Within, IsBased, Looked}
use Rattle.off_sqlcells.proofs.Texts.{get_plain, first_plain, next_plain}
use Rattle.off_sqlcells.specs.Statements.{get_text, first_text, next_text, put_text, drop_text, Gets, walk_text, walk_params, Nexts}
use Rattle.off_sqlcells.proofs.Content.{gets, nexts, drops}
use Rattle.off_sqlcells.proofs.PutContent.{puts}

-- nothing was done, or the transaction was rolled back
abbrev pub LeftAlone : State → State → Type 0
LeftAlone old new = IsUnchanged old new ⊎ IsRolledBack old new

pub was_open : (old new : State) → LeftAlone old new → IsTrue new.is_open → IsTrue old.is_open
was_open old new (inl same) up = same.0.was_open
was_open old new (inr rolled) up = rolled.was_open up

-- ---- outside of a transaction

pub still_tells : (old new : State) (m : CellMap) → LeftAlone old new → Tells old m → Tells new m
still_tells old new m (inl same) told up =
    let s = told same.0.was_open in
    record {
      schema = ap (λ (d : Database). d.schema) same.0.now_is ∙ s.schema;
      rows = subst (λ (d : Database). Holds (d.trees 0) m) (sym same.0.now_is) s.rows;
      settled = same.0.now_is ∙ s.settled ∙ sym same.0.committed_is;
      idle = same.0.mode ∙ s.idle;
    }
still_tells old new m (inr rolled) told up =
    let s = told (rolled.was_open up) in
    let back = rolled.undone up in
    let now : new.now ≡ old.now = back.0 ∙ sym s.settled in
    record {
      schema = ap (λ (d : Database). d.schema) now ∙ s.schema;
      rows = subst (λ (d : Database). Holds (d.trees 0) m) (sym now) s.rows;
      settled = back.0 ∙ sym back.1;
      idle = rolled.autocommit;
    }

command_fails : (old new : State) (sql : List ℕ) (c : Compiled) (params : Row) (e : Error) → RunsCommand old new sql c params (Err e) → LeftAlone old new
command_fails old new sql c params e (inl refused) = inl refused.1
command_fails old new sql c params e (inr failed) = inr failed.3

not_run : (old new : State) (sql : List ℕ) (params : Row) (e : Error) → IsNotRun old new sql params e → LeftAlone old new
unfolding IsNotRun
not_run old new sql params e (inl none) = inl none.1
not_run old new sql params e (inr failed) = inr failed.3

not_shown : (old new : State) (sql : List ℕ) (c : Compiled) (params : Row) (e : Error) (what : Option Returning) → FailsToShow old new sql c params e what → LeftAlone old new
not_shown old new sql c params e None h = inl h.3
not_shown old new sql c params e (Some what) h = command_fails old new sql c params e h

pub query_fails : (sql : List ℕ) (params : Row) (old new : State) (e : Error) → FailsToQuery sql params old new e → LeftAlone old new
unfolding FailsToQuery
query_fails sql params old new e (inl none) = not_run old new sql params e none
query_fails sql params old new e (inr h) = not_shown old new sql h.0 (timed params h.0.formats h.1.now) e h.0.returning h.2

rows_open : (old new : State) (sql : List ℕ) (c : Compiled) (params : Row) (rows : List Row) (what : Option Returning) → ShowsRows old new sql c params rows what → IsTrue old.is_open × IsTrue new.is_open
rows_open old new sql c params rows None h = (h.3.0.was_open, h.3.0.is_open)
rows_open old new sql c params rows (Some what) h = (h.1.shown.was_open, h.1.shown.is_open)

pub shown_open : (sql : List ℕ) (params : Row) (old new : State) (rows : List Row) → Shown sql params old new rows → IsTrue old.is_open × IsTrue new.is_open
unfolding Shown
shown_open sql params old new rows h = rows_open old new sql h.0 (timed params h.0.formats h.1.now) rows h.0.returning h.2

rows_same : (old new : State) (sql : List ℕ) (c : Compiled) (params : Row) (rows : List Row) (what : Option Returning) → what ≡ None → ShowsRows old new sql c params rows what → IsUnchanged old new
rows_same old new sql c params rows None e h = h.3
rows_same old new sql c params rows (Some what) e h = absurd cc

pub shown_same : (sql : List ℕ) (params : Row) (old new : State) (rows : List Row) → IsPlain (understood old.now.schema sql) → Shown sql params old new rows → IsUnchanged old new
unfolding Shown
shown_same sql params old new rows plain h =
    rows_same old new sql h.0 (timed params h.0.formats h.1.now) rows h.0.returning (subst IsPlain h.1.is plain).0 h.2

looked : (sql : List ℕ) (params : Row) (old new : State) (rows : List Row) (P : CellMap → Type 0) → IsPlain (understood office_schema sql)
    → ((m : CellMap) → old.now.schema ≡ office_schema → Holds (old.now.trees 0) m → Shown sql params old new rows → P m) → Shown sql params old new rows → Looked old new P
looked sql params old new rows P plain reads shown = record {
  told = λ m told.
      let s = told (shown_open sql params old new rows shown).0 in (
        still_tells old new m (inl (shown_same sql params old new rows (subst (λ k. IsPlain (understood k sql)) (sym s.schema) plain) shown)) told,
        reads m s.schema s.rows shown,
      );
  opened = (shown_open sql params old new rows shown).1;
}

pub got_told : (k : List ℕ) (old new : State) (rows : List Row) → Shown get_text (Bytes k ∷ []) old new rows → Looked old new (λ m. Gets k m rows)
got_told k old new rows shown = looked get_text (Bytes k ∷ []) old new rows (λ m. Gets k m rows) get_plain (λ m has h s. gets old new k rows m has h s) shown

pub came_told : (place : Option (List ℕ)) (old new : State) (rows : List Row) → Shown (walk_text place) (walk_params place) old new rows → Looked old new (λ m. Nexts place m rows)
came_told None old new rows shown =
    looked first_text [] old new rows (λ m. Nexts None m rows) first_plain (λ m has h s. nexts old new None rows m has h s) shown
came_told (Some ident) old new rows shown =
    looked next_text (Bytes ident ∷ []) old new rows (λ m. Nexts (Some ident) m rows) next_plain (λ m has h s. nexts old new (Some ident) rows m has h s) shown

-- ---- inside of a transaction

pub inside_fails : (sql : List ℕ) (params : Row) (old new : State) (e : Error) → ExecutesInside 0 sql params old new (Err e) → LeftAlone old new
inside_fails sql params old new e (inl ran) = ran.1
inside_fails sql params old new e (inr ended) = inl ended.2

pub still_based : (base : Database) (old new : State) → LeftAlone old new → IsBased base old → IsBased base new
still_based base old new (inl same) based up = same.0.committed_is ∙ based same.0.was_open
still_based base old new (inr rolled) based up = (rolled.undone up).1 ∙ based (rolled.was_open up)

pub within_based : (base : Database) (s : State) (m : CellMap) → Within base s m → IsBased base s
within_based base s m within up = (within up).kept

pub put_within : (base : Database) (old new : State) (k v : List ℕ) (count : ℕ) (m : CellMap)
    → ExecutesInside 0 put_text (Bytes k ∷ Bytes v ∷ []) old new (Ok count) → Within base old m → Within base new (map.insert m k v)
put_within base old new k v count m ran within up =
    let was = within ran.1.was_open in
    let put = puts old new k v count m was.schema was.rows ran.0 in
    record { schema = put.0; rows = put.1; kept = ran.1.committed_is ∙ was.kept; inside = ran.1.mode }

pub drop_within : (base : Database) (old new : State) (k : List ℕ) (count : ℕ) (m : CellMap)
    → ExecutesInside 0 drop_text (Bytes k ∷ []) old new (Ok count) → Within base old m → Within base new (map.remove m k)
drop_within base old new k count m ran within up =
    let was = within ran.1.was_open in
    let gone = drops old new k count m was.schema was.rows ran.0 in
    record { schema = gone.0; rows = gone.1; kept = ran.1.committed_is ∙ was.kept; inside = ran.1.mode }

-- the transaction ends

pub committed_tells : (base : Database) (old new : State) (m : CellMap) → Shows old new old.now old.now false → Within base old m → Tells new m
committed_tells base old new m shows within up =
    let was = within shows.was_open in
    record {
      schema = ap (λ (d : Database). d.schema) shows.now_is ∙ was.schema;
      rows = subst (λ (d : Database). Holds (d.trees 0) m) (sym shows.now_is) was.rows;
      settled = shows.now_is ∙ sym shows.committed_is;
      idle = shows.mode;
    }

pub rolled_tells : (first old new : State) (m : CellMap) → Tells first m → (IsTrue old.is_open → IsTrue first.is_open) → IsBased first.committed old → IsRolledBack old new → Tells new m
rolled_tells first old new m told was based rolled up =
    let before = rolled.was_open up in
    let s = told (was before) in
    let back = rolled.undone up in
    let now : new.now ≡ first.now = back.0 ∙ based before ∙ sym s.settled in
    record {
      schema = ap (λ (d : Database). d.schema) now ∙ s.schema;
      rows = subst (λ (d : Database). Holds (d.trees 0) m) (sym now) s.rows;
      settled = back.0 ∙ sym back.1;
      idle = rolled.autocommit;
    }

pub commit_fails : (base : Database) (old new : State) (m : CellMap) (e : Error) → Within base old m → FailsToCommit old new e → IsTrue new.is_open → IsRolledBack old new
commit_fails base old new m e within (inl failed) up = failed.3
commit_fails base old new m e within (inr ended) up = absurd (true≢false (sym (within ended.2.0.was_open).inside ∙ ended.1))
