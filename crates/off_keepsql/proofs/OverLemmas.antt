-- What a call of the cells is as a call of the keeper over them.
use Rattle.std.proofs.Common.{◌≡◌, ℕ, ◌+◌, ◌≤◌, ◌⊎◌, inl, inr, List, map as each, refl, sym, subst, arith}
use Rattle.off_defs.specs.declared.writes.Write.{Write}
use Rattle.off_defs.specs.State.{Tables}
use Rattle.off_defs.specs.Tables.{write_all}
use Rattle.off_defs.specs.Counts.{Grew, Tallied, one_more, most_count}
use Rattle.off_defs.proofs.CountLemmas.{tallied_one, grew_beside}
use Rattle.off_outside.specs.KeeperCalls.{Still, Crash, Reads, NotDone, Committed, NotCommitted, IsWritten, begun_by, keeper_faults_in, WasCounted}
use Rattle.off_outside.specs.declared.keeper.KeepErr.{KeepErr}
use Rattle.off_outside.specs.declared.keeper.KeepErr.TheVariants.{Memory, Failed}
use Rattle.off_keepsql.specs.declared.counts.Counts.{Counts}
use Rattle.off_cells.specs.CellsSeen.{CellMap, CellsSeen}
use Rattle.off_cells.specs.CellCalls.{CellsRead, CellsKept, CellsWritten, CellCallCounted, OneCellCall}
use Rattle.off_keepsql.specs.Stored.{Stores, cell_write, AllSpelled}
use Rattle.off_keepsql.specs.SqlSeen.{StoredIn, over}
use Rattle.off_keepsql.proofs.StoredLemmas.{all_store}

-- it says nothing of a crash
still_over : (a b : CellsSeen) (c d : Counts) → Still (over a c) (over b d)
still_over a b c d = record {
  later = omega arith;
  past = λ m u before opened. opened;
  within = λ m u behind before opened. opened;
  doubts = λ u doubt. doubt;
}

crash_over : (P : Tables → Tables → Type 0) (a b : CellsSeen) (c d : Counts) → Crash P (over a c) (over b d)
crash_over P a b c d = record {
  later = omega arith;
  past = λ m u before opened. opened;
  within = λ t told m u behind before opened. absurd opened;
  doubts = λ t told u doubt. absurd doubt;
}

-- ---- counts

-- the counts of the own faults and of the commits stand
pub record Counted (c d : Counts) : Type 0 where
  pub own : d.own ≡ c.own
  pub commits : d.commits ≡ c.commits

-- a fault of the own is counted, and no commit
pub record OwnCounted (c d : Counts) : Type 0 where
  pub own : d.own ≡ one_more c.own
  pub fits : c.own ≤ most_count
  pub commits : d.commits ≡ c.commits

cells_counted : (n x y own same : ℕ) → Tallied n x y → same ≡ own → Tallied n (x + own) (y + same)
cells_counted n x y own same counted is = record {
  grew = grew_beside n x y own same counted.grew is;
  stands = λ none. let stands : y ≡ x = counted.stands none in omega (arith, stands, is);
}

own_counted : (x y own more : ℕ) → y ≡ x → more ≡ one_more own → own ≤ most_count → Tallied 1 (x + own) (y + more)
own_counted x y own more same is fits = tallied_one (record { later = omega (arith, same, is, fits); grew = omega (arith, same, is, fits) })

none_counted : (x y own more : ℕ) → y ≡ x → more ≡ own → Tallied 0 (x + own) (y + more)
none_counted x y own more same is = record {
  grew = record { later = omega (arith, same, is); grew = omega (arith, same, is) };
  stands = λ none. omega (arith, same, is);
}

-- ---- reading

pub read_over : {P : CellMap → Type 0} {Q : Tables → Type 0} {a b : CellsSeen} {c d : Counts} → CellsRead P a b → Counted c d
    → ((m : CellMap) (t : Tables) → Stores m t → P m → Q t) → Reads Q (over a c) (over b d)
read_over {P} {Q} {a} {b} {c} {d} read counted leads = record {
  tables = λ t s. (record { cells = s.cells; told = (read.cells s.cells s.told).0; stores = s.stores }, leads s.cells t s.stores (read.cells s.cells s.told).1);
  quiet = record {
    up = read.up;
    faults = omega (arith, read.faults, counted.own);
    commits = counted.commits;
    waits = refl;
    still = still_over a b c d;
  };
}

up_cells : {up : Type 0} (n x y own same : ℕ) → up ⊎ Grew n x y → same ≡ own → up ⊎ Grew n (x + own) (y + same)
up_cells n x y own same (inl up) is = inl up
up_cells n x y own same (inr grew) is = inr (grew_beside n x y own same grew is)

pub kept_over : {err : KeepErr} {a b : CellsSeen} {c d : Counts} → CellsKept err a b → Counted c d → NotDone err (over a c) (over b d)
kept_over {err} {a} {b} {c} {d} kept counted = record {
  tables = λ t s. record { cells = s.cells; told = kept.cells s.cells s.told; stores = s.stores };
  up = λ up. up_cells 1 a.faults b.faults c.own d.own (kept.up up) counted.own;
  faults = cells_counted (keeper_faults_in err) a.faults b.faults c.own d.own kept.faults counted.own;
  commits = counted.commits;
  waits = refl;
  still = still_over a b c d;
}

pub wanting_over : {P : CellMap → Type 0} {a b : CellsSeen} {c d : Counts} → CellsRead P a b → Counted c d → NotDone Memory (over a c) (over b d)
wanting_over {P} {a} {b} {c} {d} read counted = record {
  tables = λ t s. record { cells = s.cells; told = (read.cells s.cells s.told).0; stores = s.stores };
  up = λ up. inl (read.up up);
  faults = none_counted a.faults b.faults c.own d.own read.faults counted.own;
  commits = counted.commits;
  waits = refl;
  still = still_over a b c d;
}

pub bad_over : {P : CellMap → Type 0} {a b : CellsSeen} {c d : Counts} → CellsRead P a b → OwnCounted c d → NotDone Failed (over a c) (over b d)
bad_over {P} {a} {b} {c} {d} read counted = record {
  tables = λ t s. record { cells = s.cells; told = (read.cells s.cells s.told).0; stores = s.stores };
  up = λ up. inl (read.up up);
  faults = own_counted a.faults b.faults c.own d.own read.faults counted.own counted.fits;
  commits = counted.commits;
  waits = refl;
  still = still_over a b c d;
}

-- ---- a commit

stored_all : (writes : List Write) (a b : CellsSeen) (t : Tables) → AllSpelled writes → CellsWritten (each cell_write writes) a b → StoredIn a t → StoredIn b (write_all t writes)
stored_all writes a b t all done s =
    let goes = done.cells.each s.cells s.told in
    record {
      cells = goes.value;
      told = goes.told;
      stores = subst (λ (m : CellMap). Stores m (write_all t writes)) (sym goes.fits) (all_store s.cells t writes all s.stores);
    }

pub committed_over : {writes : List Write} {a b : CellsSeen} {c d : Counts} → CellsWritten (each cell_write writes) a b → AllSpelled writes
    → d.own ≡ c.own → d.commits ≡ one_more c.commits → Committed writes (over a c) (over b d)
committed_over {writes} {a} {b} {c} {d} done all own commits = record {
  tables = record { each = λ t s. record { value = write_all t writes; told = stored_all writes a b t all done s; fits = refl } };
  up = done.up;
  faults = omega (arith, done.faults, own);
  commits = commits;
  waits = refl;
  crash = crash_over (IsWritten writes) a b c d;
  sure = λ t told u doubt. doubt;
}

pub uncommitted_over : (writes : List Write) {err : KeepErr} {a b : CellsSeen} {c d : Counts} → CellsKept err a b → Counted c d → NotCommitted (IsWritten writes) err (over a c) (over b d)
uncommitted_over writes {err} {a} {b} {c} {d} kept counted = record {
  tables = λ t s. record { cells = s.cells; told = kept.cells s.cells s.told; stores = s.stores };
  up = λ up. up_cells 1 a.faults b.faults c.own d.own (kept.up up) counted.own;
  faults = cells_counted (keeper_faults_in err) a.faults b.faults c.own d.own kept.faults counted.own;
  commits = counted.commits;
  waits = refl;
  crash = crash_over (begun_by err (IsWritten writes)) a b c d;
}

-- no call was made of the cells
pub unspelled_over : (writes : List Write) {a : CellsSeen} {c d : Counts} → OwnCounted c d → NotCommitted (IsWritten writes) Failed (over a c) (over a d)
unspelled_over writes {a} {c} {d} counted = record {
  tables = λ t s. s;
  up = λ up. inl up;
  faults = own_counted a.faults a.faults c.own d.own refl counted.own counted.fits;
  commits = counted.commits;
  waits = refl;
  crash = crash_over (begun_by Failed (IsWritten writes)) a a c d;
}

pub unwritten_over : (writes : List Write) {a : CellsSeen} {c d : Counts} → Counted c d → NotCommitted (IsWritten writes) Memory (over a c) (over a d)
unwritten_over writes {a} {c} {d} counted = record {
  tables = λ t s. s;
  up = λ up. inl up;
  faults = none_counted a.faults a.faults c.own d.own refl counted.own;
  commits = counted.commits;
  waits = refl;
  crash = crash_over (begun_by Memory (IsWritten writes)) a a c d;
}

-- ---- calls

pub one_call : {a b : CellsSeen} → CellCallCounted a b → OneCellCall a b
one_call p = record { later = p.later; most = omega (arith, p.one) }

pub no_call : (a : CellsSeen) → OneCellCall a a
no_call a = record { later = omega arith; most = omega arith }

pub called : (a b : CellsSeen) (c d : Counts) → c.calls ≤ most_count → d.calls ≡ one_more c.calls → WasCounted (over a c) (over b d)
called a b c d fits one = record { later = omega (arith, fits, one); one = one }
