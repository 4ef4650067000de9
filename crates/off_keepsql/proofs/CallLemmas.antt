-- Where the calls of a keeper over cells return.
use Rattle.std.proofs.Common.{◌≡◌, ℕ, Option, Some, None, List, Ok, Err, inl, inr, sym, ap, subst, ◌∙◌, arith}
use Rattle.std.specs.Option.{option_map}
use Rattle.off_defs.specs.declared.keys.Key.{Key}
use Rattle.off_defs.specs.declared.tables.Row.{Row}
use Rattle.off_defs.specs.declared.writes.Write.{Write}
use Rattle.off_defs.specs.Tables.{row_at, next_entry}
use Rattle.off_defs.specs.Counts.{one_more}
use Rattle.off_outside.specs.KeeperCalls.{Reads, NotDone, Committed}
use Rattle.off_outside.specs.declared.keeper.KeepErr.{KeepErr}
use Rattle.off_outside.specs.declared.keeper.KeepErr.TheVariants.{Memory, Failed}
use Rattle.off_rows.specs.KeyBytes.{key_bytes, IsRanged}
use Rattle.off_keepsql.specs.declared.counts.Counts.{Counts}
use Rattle.off_cells.specs.declared.writes.CellWrite.{CellWrite}
use Rattle.off_cells.specs.CellsSeen.{Cell, CellMap, CellsSeen, cell_at, next_cell}
use Rattle.off_cells.specs.CellCalls.{CellsRead, CellsWritten}
use Rattle.off_keepsql.specs.Stored.{PlaceRanged, MeetsBad}
use Rattle.off_keepsql.specs.SqlSeen.{over}
use Rattle.off_keepsql.specs.OwnCount.{asked_at, CountsOne, CountsBad, RowRead, EntryRead, WritesSpelled}
use Rattle.off_keepsql.proofs.StoredLemmas.{got_none, got_row, came_none, came_entry, bad_at, good_at}
use Rattle.off_keepsql.proofs.OverLemmas.{Counted, OwnCounted, read_over, wanting_over, bad_over, committed_over}

abbrev pub once_called : Counts → Counts
once_called c = record c { calls = one_more c.calls }

pub called_counted : (c d : Counts) → d ≡ once_called c → Counted c d
called_counted c d is = record { own = ap (λ (k : Counts). k.own) is; commits = ap (λ (k : Counts). k.commits) is }

pub read_counted : (c d : Counts) (own : ℕ) → d ≡ once_called c → own ≡ d.own → Counted c (record d { own = own })
read_counted c d own is same = record { own = same ∙ ap (λ (k : Counts). k.own) is; commits = ap (λ (k : Counts). k.commits) is }

pub bad_counted : (c d : Counts) (own : ℕ) → d ≡ once_called c → CountsOne d.own own → OwnCounted c (record d { own = own })
bad_counted c d own is more = record {
  own = more.0 ∙ ap (λ (k : Counts). one_more k.own) is;
  fits = let same : d.own ≡ c.own = ap (λ (k : Counts). k.own) is in omega (arith, more.1, same);
  commits = ap (λ (k : Counts). k.commits) is;
}

-- ---- the row of a key

pub get_none : {a b : CellsSeen} {c d : Counts} (key : Key) (ident : List ℕ) (o : Option (List ℕ)) → CellsRead (λ m. o ≡ cell_at m ident) a b → ident ≡ key_bytes key → IsRanged key
    → o ≡ None → Counted c d → Reads (λ t. None ≡ row_at t key) (over a c) (over b d)
get_none key ident o read is ranged none counted =
    read_over read counted (λ m t stores found. got_none m t key ranged stores (sym none ∙ (found ∙ ap (λ (i : List ℕ). cell_at m i) is)))

pub get_some : {a b : CellsSeen} (c d : Counts) (own : ℕ) (key : Key) (ident val bytes : List ℕ) (o : Option (List ℕ)) (row : Row) → CellsRead (λ m. o ≡ cell_at m ident) a b
    → ident ≡ key_bytes key → IsRanged key → o ≡ Some val → bytes ≡ val → d ≡ once_called c → RowRead (Ok row) key bytes d.own own
    → Reads (λ t. Some row ≡ row_at t key) (over a c) (over b (record d { own = own }))
get_some c d own key ident val bytes o row read is ranged some same called r =
    read_over read (read_counted c d own called r.2) (λ m t stores found.
    got_row m t key val row ranged r.0 (r.1 ∙ same) stores (sym some ∙ (found ∙ ap (λ (i : List ℕ). cell_at m i) is)))

pub get_unread : (P : CellMap → Type 0) {a b : CellsSeen} (c d : Counts) (own : ℕ) (key : Key) (bytes : List ℕ) (err : KeepErr) → CellsRead P a b
    → d ≡ once_called c → RowRead (Err err) key bytes d.own own → NotDone err (over a c) (over b (record d { own = own }))
get_unread P c d own key bytes Memory read called r = wanting_over read (read_counted c d own called r)
get_unread P c d own key bytes Failed read called r = bad_over read (bad_counted c d own called r.1)

pub own_some : (m : CellMap) (c d : Counts) (own : ℕ) (key : Key) (ident val bytes : List ℕ) (o : Option (List ℕ)) (row : Row) → o ≡ cell_at m ident
    → ident ≡ key_bytes key → IsRanged key → o ≡ Some val → bytes ≡ val → d ≡ once_called c → RowRead (Ok row) key bytes d.own own
    → (¬ MeetsBad (asked_at key m)) × (own ≡ c.own)
own_some m c d own key ident val bytes o row found is ranged some same called r =
    (good_at m key val row ranged r.0 (r.1 ∙ same) (sym some ∙ (found ∙ ap (λ (i : List ℕ). cell_at m i) is)), r.2 ∙ ap (λ (k : Counts). k.own) called)

pub own_unread : (m : CellMap) (c d : Counts) (own : ℕ) (key : Key) (ident val bytes : List ℕ) (o : Option (List ℕ)) (err : KeepErr) → o ≡ cell_at m ident
    → ident ≡ key_bytes key → IsRanged key → o ≡ Some val → bytes ≡ val → d ≡ once_called c → RowRead (Err err) key bytes d.own own
    → CountsBad (asked_at key m) c.own own
own_unread m c d own key ident val bytes o Memory found is ranged some same called r = inl (r ∙ ap (λ (k : Counts). k.own) called)
own_unread m c d own key ident val bytes o Failed found is ranged some same called r =
    inr (
      bad_at m key val ranged (λ row of_key at. r.0 row of_key (at ∙ sym same)) (sym some ∙ (found ∙ ap (λ (i : List ℕ). cell_at m i) is)),
      r.1.0 ∙ ap (λ (k : Counts). one_more k.own) called,
    )

-- ---- the next entry

pub next_none : {a b : CellsSeen} {c d : Counts} (place : Option Key) (given : Option (List ℕ)) (o : Option Cell) → CellsRead (λ m. o ≡ next_cell given m) a b
    → given ≡ option_map key_bytes place → PlaceRanged place → o ≡ None → Counted c d → Reads (λ t. None ≡ next_entry place t) (over a c) (over b d)
next_none place given o read is ranged none counted =
    read_over read counted (λ m t stores found.
    came_none m t place ranged stores (sym none ∙ (found ∙ ap (λ (i : Option (List ℕ)). next_cell i m) is)))

pub next_some : {a b : CellsSeen} (c d : Counts) (own : ℕ) (place : Option Key) (given : Option (List ℕ)) (cell read_of : Cell) (o : Option Cell) (entry : Key × Row)
    → CellsRead (λ m. o ≡ next_cell given m) a b → given ≡ option_map key_bytes place → PlaceRanged place → o ≡ Some cell → d ≡ once_called c
    → EntryRead (Ok entry) read_of d.own own → read_of.0 ≡ cell.0 → read_of.1 ≡ cell.1 → Reads (λ t. Some entry ≡ next_entry place t) (over a c) (over b (record d { own = own }))
next_some c d own place given cell read_of o entry read is ranged some called r idents vals =
    let same : read_of ≡ cell = λ i. (idents i, vals i) in
    read_over read (read_counted c d own called r.2) (λ m t stores found.
    came_entry m t place cell entry ranged r.0 (r.1 ∙ same) stores (sym some ∙ (found ∙ ap (λ (i : Option (List ℕ)). next_cell i m) is)))

pub next_unread : (P : CellMap → Type 0) {a b : CellsSeen} (c d : Counts) (own : ℕ) (cell : Cell) (err : KeepErr) → CellsRead P a b
    → d ≡ once_called c → EntryRead (Err err) cell d.own own → NotDone err (over a c) (over b (record d { own = own }))
next_unread P c d own cell Memory read called r = wanting_over read (read_counted c d own called r)
next_unread P c d own cell Failed read called r = bad_over read (bad_counted c d own called r.1)

-- ---- a commit

pub commit_done : (writes : List Write) {a b : CellsSeen} (c d : Counts) (own : ℕ) (cells : List CellWrite) (e : Counts) → d ≡ once_called c
    → WritesSpelled (Ok cells) writes d.own own → CellsWritten cells a b → e ≡ record d { own = own; commits = one_more d.commits }
    → Committed writes (over a c) (over b e)
commit_done writes {a} {b} c d own cells e called spelled done after =
    committed_over {c = c} {d = e} (subst (λ (ws : List CellWrite). CellsWritten ws a b) spelled.1 done) spelled.0
    (ap (λ (k : Counts). k.own) after ∙ (spelled.2 ∙ ap (λ (k : Counts). k.own) called))
    (ap (λ (k : Counts). k.commits) after ∙ ap (λ (k : Counts). one_more k.commits) called)
