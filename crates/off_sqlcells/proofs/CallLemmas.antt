-- What the functions of the statements do, from the clauses of the calls that they make.
use Rattle.std.proofs.Common.{◌≡◌, ℕ, zero, suc, ◌≤◌, length, take, arith, Bool, true, false, List, [], ◌∷◌, ◌++◌, Some, slice_get, slice_index_or, ◌==◌, Ok, Err, Result, is_ok, IsTrue, IfOk, IfErr, OnOk, OnErr, inl, inr, refl, sym, ap, subst}
use Rattle.sqlite_value.specs.Order.{Row}
use Rattle.sqlite_trees.specs.declared.store.Store.{Ghosts}
use Rattle.sqlite.specs.declared.error.Error.{Error}
use Rattle.sqlite.specs.Effect.{Database}
use Rattle.sqlite.specs.Held.{Held, state}
use Rattle.sqlite_rules.specs.Lists.{Has}
use Rattle.sqlite.specs.State.{State, IsRolledBack, ExecutesInside, Shown}
use Rattle.off_cells.specs.CellsSeen.{CellMap}
use Rattle.off_cells.specs.CellWritten.{cell_written, write_cells}
use Rattle.off_cells.specs.declared.writes.CellWrite.{CellWrite}
use Rattle.off_sqlcells.specs.declared.refusals.Refused.{Refused}
use Rattle.off_sqlcells.specs.declared.refusals.Refused.TheVariants.{Memory, Store}
use Rattle.off_sqlcells.specs.Stands.{Tells, StillTells, Looked, Wrote, Stays, Within}
use Rattle.off_sqlcells.specs.Refusals.{begun, FailsToCopy, IsNoCell, ShowNoCell, FailsToLook, FailsToEnd, FailsToWriteAll, FailsToCommitAll}
use Rattle.off_sqlcells.specs.Ends.{Ends, Finishes}
use Rattle.off_sqlcells.proofs.StateLemmas.{LeftAlone, was_open, still_based, inside_fails, committed_tells, rolled_tells, commit_fails}

looked_weaker : (old new : State) (P Q : CellMap → Type 0) → ((m : CellMap) → P m → Q m) → Looked old new P → Looked old new Q
looked_weaker old new P Q weaker l = record { told = λ m told. let t = l.told m told in (t.0, weaker m t.1); opened = l.opened }

pub val_looked : {V E : Type 0} (r : Result V E) (old new : State) (P : CellMap → Type 0) (Q : V → CellMap → Type 0) → IfOk r (λ val. (m : CellMap) → P m → Q val m) → Looked old new P
    → IfOk r (λ val. Looked old new (Q val))
val_looked (Ok val) old new P Q is l = looked_weaker old new P (Q val) is l
val_looked (Err err) old new P Q is l = tt

pub only_ok : {V E : Type 0} (r : Result V E) (P Q : V → Type 0) → ((val : V) → P val → Q val) → IfOk r P → IfOk r Q
only_ok (Ok val) P Q weaker p = weaker val p
only_ok (Err err) P Q weaker p = tt

-- ---- within a transaction

pub surely : (b : Bool) → (b ≡ false → ⊥) → IsTrue b
surely true never = refl
surely false never = absurd (never refl)

alone_stays : (old new : State) → LeftAlone old new → Stays old new
alone_stays old new alone = record { was_open = was_open old new alone; based = λ base. still_based base old new alone }

same_stays : {S : Type 0} (g : Ghosts S) (old new : Held S) → new ≡ old → Stays (state g old) (state g new)
same_stays g old new same = subst (λ (h : Held _). Stays (state g old) (state g h)) (sym same) (record { was_open = λ up. up; based = λ base based. based })

module _ {S : Type 0} (g : Ghosts S) (old new : Held S) (sql : List ℕ) (params : Row) (e : Error) {A : Type 0} where
  pub fails_stays : (b : Bool) → (state g old).in_transaction ≡ b → (b ≡ false → A × (new ≡ old))
      → (IsTrue b → ExecutesInside 0 sql params (state g old) (state g new) (Err e)) → Stays (state g old) (state g new)
  fails_stays true is ended runs = alone_stays (state g old) (state g new) (inside_fails sql params (state g old) (state g new) e (runs refl))
  fails_stays false is ended runs = same_stays g old new (ended refl).1

-- ---- the whole transaction

begun_within : {S : Type 0} (g : Ghosts S) (old : Held S) (m : CellMap) → Tells (state g old) m → Within (state g old).committed (state g (begun old)) m
begun_within g old m told up = let s = told up in record { schema = s.schema; rows = s.rows; kept = refl; inside = refl }

module _ {S : Type 0} (g : Ghosts S) (old mid new : Held S) (writes : List CellWrite) where
  abbrev base : Database
  base = (state g old).committed

  abbrev Does : Type 0
  Does = (b : Database) (m : CellMap) → Within b (state g (begun old)) m → Within b (state g mid) (write_cells m writes)

  rolled_back : Stays (state g (begun old)) (state g mid) → IsRolledBack (state g mid) (state g new) → StillTells (state g old) (state g new)
  rolled_back stays rolled m told = rolled_tells (state g old) (state g mid) (state g new) m told stays.was_open (stays.based base (λ up. refl)) rolled

  pub committed_all : (done result : Result (Unit {0}) Refused) → OnOk done Does → Ends done result (state g mid) (state g new) → OnOk result (Wrote writes (state g old) (state g new))
  committed_all (Ok x) (Ok y) does ends = record {
    told = λ m told. committed_tells base (state g mid) (state g new) (write_cells m writes) ends (does base m (begun_within g old m told));
    opened = ends.is_open;
  }
  committed_all (Ok x) (Err e) does ends = tt
  committed_all (Err e) (Ok y) does ends = absurd (let no = ends.1 in cc)
  committed_all (Err e) (Err f) does ends = tt

  pub none_committed : (done result : Result (Unit {0}) Refused) → OnOk done Does → Stays (state g (begun old)) (state g mid) → Ends done result (state g mid) (state g new)
      → OnErr result (StillTells (state g old) (state g new))
  none_committed (Ok x) (Ok y) does stays ends = tt
  none_committed (Ok x) (Err e) does stays ends = λ m told.
      λ up. rolled_back stays (commit_fails base (state g mid) (state g new) (write_cells m writes) ends.0 (does base m (begun_within g old m told)) ends.1 up) m told up
  none_committed (Err e) (Ok y) does stays ends = tt
  none_committed (Err e) (Err f) does stays ends = rolled_back stays ends.0

-- an empty transaction
pub finished_tells : {S : Type 0} (g : Ghosts S) (old new : Held S) (result : Result (Unit {0}) Refused) → Finishes result (state g (begun old)) (state g new) → StillTells (state g old) (state g new)
finished_tells g old new (Ok x) ends m told = committed_tells (state g old).committed (state g (begun old)) (state g new) m ends (begun_within g old m told)
finished_tells g old new (Err e) ends m told =
    λ up. rolled_tells (state g old) (state g (begun old)) (state g new) m told (λ up. up) (λ up. refl)
    (commit_fails (state g old).committed (state g (begun old)) (state g new) m ends.0 (begun_within g old m told) ends.1 up) up

pub finish_refused : (old new : State) (result : Result (Unit {0}) Refused) → is_ok result ≡ false → Finishes result old new → (refused : Refused) × FailsToEnd old new refused
finish_refused old new (Ok x) is ends = cc
finish_refused old new (Err refused) is ends = (refused, ends)

-- ---- why a call isn't done

pub copy_fails : {V : Type 0} (r : Result V Refused) (sql : List ℕ) (params : Row) (ShowNone : List Row → Type 0) (old new : State) (rows : List Row) → Shown sql params old new rows
    → IfErr r (FailsToCopy (ShowNone rows)) → IfErr r (FailsToLook sql params ShowNone old new)
copy_fails (Ok val) sql params ShowNone old new rows shown fails = tt
copy_fails (Err refused) sql params ShowNone old new rows shown fails = inr (rows, shown, fails)

-- the first of the rows is no cell
pub first_bad : (rows : List Row) (row : Row) (refused : Refused) → (length rows == 0) ≡ false → row ≡ slice_index_or rows 0 row → FailsToCopy (IsNoCell row) refused → FailsToCopy (ShowNoCell rows) refused
first_bad [] row refused some first fails = cc
first_bad (r ∷ rows) row Memory some first fails = tt
first_bad (r ∷ rows) row Store some first fails = subst IsNoCell first fails

pub commit_refused : {S : Type 0} (g : Ghosts S) (old mid new : Held S) (writes : List CellWrite) (done result : Result (Unit {0}) Refused)
    → IfErr done (FailsToWriteAll g writes (begun old) mid) → Ends done result (state g mid) (state g new) → IfErr result (FailsToCommitAll g writes old new)
commit_refused g old mid new writes (Ok x) (Ok y) fails ends = tt
commit_refused g old mid new writes (Ok x) (Err e) fails ends = record { within = mid; cause = inr ends }
commit_refused g old mid new writes (Err e) (Ok y) fails ends = tt
commit_refused g old mid new writes (Err e) (Err f) fails ends =
    let same : f ≡ e = let h = ends.1 in cc in
    record { within = mid; cause = inl (subst (FailsToWriteAll g writes (begun old) mid) (sym same) fails) }

pub got_has : {X : Type 0} (xs : List X) (i : ℕ) (x : X) → slice_get xs i ≡ Some x → Has xs x
got_has [] i x got = cc
got_has (y ∷ xs) zero x got = inl (let same : y ≡ x = cc in sym same)
got_has (y ∷ xs) (suc i) x got = inr (got_has xs i x got)

-- ---- writes in order

pub one_more_write : (m : CellMap) (writes : List CellWrite) (write : CellWrite) → write_cells m (writes ++ write ∷ []) ≡ cell_written (write_cells m writes) write
one_more_write m [] write = refl
one_more_write m (w ∷ ws) write = one_more_write (cell_written m w) ws write

pub whole_taken : {X : Type 0} (xs : List X) (n : ℕ) → length xs ≤ n → take n xs ≡ xs
whole_taken [] zero enough = refl
whole_taken [] (suc n) enough = refl
whole_taken (x ∷ xs) zero enough = absurd (omega (arith, enough))
whole_taken {X} (x ∷ xs) (suc n) enough = ap (λ (ys : List X). x ∷ ys) (whole_taken xs n (omega (arith, enough)))

pub stays_then : (a b c : State) → Stays a b → Stays b c → Stays a c
stays_then a b c p q = record { was_open = λ up. p.was_open (q.was_open up); based = λ base based. q.based base (p.based base based) }
