-- A keeper in memory: its entries as tables, and what it tells of a call.
use Rattle.std.proofs.Common.{◌≡◌, ◌≤◌, not, Option, List, [], ◌∷◌, Result, Ok, Err, inl, length, refl, sym, ap, subst, ◌∙◌, arith}
use Rattle.std.specs.List.{filter, find}
use Rattle.std.specs.Ordering.{eq_by_cmp}
use Rattle.std.specs.FinMap as map
use Rattle.std.specs.FinMap.Entries as list
use Rattle.off_defs.specs.declared.keys.Key.{Key}
use Rattle.off_defs.specs.declared.tables.Row.{Row}
use Rattle.off_defs.specs.declared.writes.Write.{Write}
use Rattle.off_defs.specs.declared.writes.Write.TheVariants.{Put, Drop}
use Rattle.off_defs.specs.Keys.{key_cmp}
use Rattle.off_defs.specs.State.{Tables}
use Rattle.off_defs.specs.Tables.{row_at, with_row, without, written, write_all, is_after, next_entry}
use Rattle.off_defs.proofs.TableLemmas.{entries_with, entries_without}
use Rattle.off_defs.proofs.ToldLemmas.{told_known}
use Rattle.off_outside.specs.declared.keeper.KeepErr.{KeepErr}
use Rattle.off_outside.specs.declared.keeper.KeepErr.TheVariants.{Memory, Failed}
use Rattle.off_defs.specs.Counts.{Tallied, one_more, most_count}
use Rattle.off_defs.proofs.CountLemmas.{tallied_one}
use Rattle.off_outside.specs.InMemory.{CallsHeld}
use Rattle.off_outside.specs.KeeperCalls.{Still, Crash, Reads, NotDone, Looks, Commits, WasCounted, keeper_faults_in}
use Rattle.off_keepmem.specs.KeeperInMemory.{MemKeeperHeld, keeper_seen, MemRead, MemUndone, MemLooks, MemCommits}
use Rattle.off_keepmem.specs.Entries.{Rises, row_in, put_entry, but_key, next_in, entries_written, rows_after}
use Rattle.off_keepmem.proofs.ShelfLemmas.{rises_none, put_rises, drop_rises}

abbrev tables_of : List (Key × Row) → Tables
tables_of entries = map.from_sorted {R = key_cmp} entries

pub none_held : tables_of [] ≡ map.empty
none_held = map.empty_of_len (tables_of []) (map.len-entries (tables_of []) ∙ ap (λ (es : List (Key × Row)). length es) (map.entries-from_sorted key_cmp [] tt))

pub row_held : (es : List (Key × Row)) (key : Key) → Rises es → row_in key es ≡ row_at (tables_of es) key
unfolding Rises row_in
row_held es key h = sym (map.get-from_sorted key_cmp es key h)

pub next_held : (es : List (Key × Row)) (place : Option Key) → Rises es → next_in place es ≡ next_entry place (tables_of es)
unfolding Rises next_in
next_held es place h = ap (λ (v : List (Key × Row)). find (is_after place) v) (sym (map.entries-from_sorted key_cmp es h))

put_held : (es : List (Key × Row)) (key : Key) (row : Row) → Rises es → Rises (put_entry key row es) → tables_of (put_entry key row es) ≡ with_row (tables_of es) key row
unfolding Rises put_entry
put_held es key row h after =
    map.same_entries_map (tables_of (put_entry key row es)) (with_row (tables_of es) key row)
    (map.entries-from_sorted key_cmp (put_entry key row es) after
    ∙ sym (entries_with (tables_of es) key row ∙ ap (λ (v : List (Key × Row)). list.put key_cmp key row v) (map.entries-from_sorted key_cmp es h)))

drop_held : (es : List (Key × Row)) (key : Key) → Rises es → Rises (but_key key es) → tables_of (but_key key es) ≡ without (tables_of es) key
unfolding Rises but_key
drop_held es key h after =
    map.same_entries_map (tables_of (but_key key es)) (without (tables_of es) key)
    (map.entries-from_sorted key_cmp (but_key key es) after
    ∙ sym (entries_without (tables_of es) key ∙ ap (λ (v : List (Key × Row)). filter (λ e. not (eq_by_cmp key_cmp key e.0)) v) (map.entries-from_sorted key_cmp es h)))

write_held : (es : List (Key × Row)) (write : Write) → Rises es → tables_of (entries_written es write) ≡ written (tables_of es) write
write_held es (Put key row) h = put_held es key row h (put_rises key row es h)
write_held es (Drop key) h = drop_held es key h (drop_rises key es h)

written_rises : (es : List (Key × Row)) (write : Write) → Rises es → Rises (entries_written es write)
written_rises es (Put key row) h = put_rises key row es h
written_rises es (Drop key) h = drop_rises key es h

pub all_held : (es : List (Key × Row)) (writes : List Write) → Rises es → tables_of (rows_after es writes) ≡ write_all (tables_of es) writes
all_held es [] h = refl
all_held es (write ∷ writes) h =
    all_held (entries_written es write) writes (written_rises es write h) ∙ ap (λ (t : Tables). write_all t writes) (write_held es write h)

-- a keeper in memory says nothing of a crash
still_seen : (old new : MemKeeperHeld) → Still (keeper_seen old) (keeper_seen new)
still_seen old new = record {
  later = omega arith;
  past = λ m u before opened. opened;
  within = λ m u behind before opened. opened;
  doubts = λ u doubt. doubt;
}

crash_seen : {P : Tables → Tables → Type 0} (old new : MemKeeperHeld) → Crash P (keeper_seen old) (keeper_seen new)
crash_seen old new = record {
  later = omega arith;
  past = λ m u before opened. opened;
  within = λ t told m u behind before opened. absurd opened;
  doubts = λ t told u doubt. absurd doubt;
}

read_tells : {P : Tables → Type 0} {old new : MemKeeperHeld} → P old.tables → MemRead old new → Reads P (keeper_seen old) (keeper_seen new)
read_tells {P} {old} {new} p read = record {
  tables = λ t told. (told ∙ sym (ap (λ (m : MemKeeperHeld). m.tables) read.after), subst P (sym told) p);
  quiet = record {
    up = λ up. up;
    faults = ap (λ (m : MemKeeperHeld). m.faults) read.after;
    commits = ap (λ (m : MemKeeperHeld). m.commits) read.after;
    waits = refl;
    still = still_seen old new;
  };
}

undone_counts : (err : KeepErr) (old new : MemKeeperHeld) → MemUndone err old new → Tallied (keeper_faults_in err) old.faults new.faults
undone_counts Memory old new undone = record {
  grew = record { later = omega (arith, undone.faults); grew = omega (arith, undone.faults, undone.fits) };
  stands = λ none. undone.faults;
}
undone_counts Failed old new undone = tallied_one (record { later = omega (arith, undone.faults, undone.fits); grew = omega (arith, undone.faults) })

undone_tells : (err : KeepErr) (old new : MemKeeperHeld) → MemUndone err old new → NotDone err (keeper_seen old) (keeper_seen new)
undone_tells err old new undone = record {
  tables = λ t told. told ∙ sym undone.tables;
  up = λ up. inl up;
  faults = undone_counts err old new undone;
  commits = undone.commits;
  waits = refl;
  still = still_seen old new;
}

-- what a reading tells, and that it was counted
pub reads_told : {A : Type 0} (Q : A → Tables → Type 0) (r : Result A KeepErr) (old new : MemKeeperHeld)
    → MemLooks r old new Q → Looks r (keeper_seen old) (keeper_seen new) Q
reads_told Q (Ok a) old new h = read_tells {P = Q a} h.0 h.1
reads_told Q (Err err) old new h = undone_tells err old new h

counted_by : (old new : MemKeeperHeld) → old.calls.made ≤ most_count → new.calls.made ≡ one_more old.calls.made → WasCounted (keeper_seen old) (keeper_seen new)
counted_by old new fits one = record { later = omega (arith, fits, one); one = one }

pub reads_counted : {A : Type 0} (Q : A → Tables → Type 0) (r : Result A KeepErr) (old new : MemKeeperHeld)
    → MemLooks r old new Q → WasCounted (keeper_seen old) (keeper_seen new)
reads_counted Q (Ok a) old new h = counted_by old new h.1.fits (ap (λ (m : MemKeeperHeld). m.calls.made) h.1.after)
reads_counted Q (Err err) old new h = counted_by old new h.calls_fit (ap (λ (v : CallsHeld). v.made) h.calls)

-- likewise of a commit
pub commit_told : (writes : List Write) (r : Result (Unit {0}) KeepErr) (old new : MemKeeperHeld)
    → MemCommits r old new writes → Commits r (keeper_seen old) (keeper_seen new) writes
commit_told writes (Ok a) old new h = record {
  tables = told_known h.tables;
  up = λ up. up;
  faults = h.faults;
  commits = h.commits;
  waits = refl;
  crash = crash_seen old new;
  sure = λ t told u doubt. doubt;
}
commit_told writes (Err err) old new h = record {
  tables = λ t told. told ∙ sym h.tables;
  up = λ up. inl up;
  faults = undone_counts err old new h;
  commits = h.commits;
  waits = refl;
  crash = crash_seen old new;
}

pub commit_counted : (writes : List Write) (r : Result (Unit {0}) KeepErr) (old new : MemKeeperHeld)
    → MemCommits r old new writes → WasCounted (keeper_seen old) (keeper_seen new)
commit_counted writes (Ok a) old new h = counted_by old new h.fits (ap (λ (v : CallsHeld). v.made) h.calls)
commit_counted writes (Err err) old new h = counted_by old new h.calls_fit (ap (λ (v : CallsHeld). v.made) h.calls)

-- a keeper without rows
pub ruleset none_rules = (none_held, rises_none)
