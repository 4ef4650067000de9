-- Laws of the tables: what a write makes of a row and of the entries, and how a walk goes on.
use Rattle.std.proofs.Common.{◌≡◌, ℕ, zero, suc, ◌+◌, true, cond, not, Option, Some, None, List, [], ◌∷◌, slice_get, take, ap, ◌∙◌, add-one}
use Rattle.std.specs.List.{filter}
use Rattle.std.specs.Ordering.{is_eq, eq_by_cmp}
use Rattle.std.specs.Cmp.{tied_itself}
use Rattle.std.specs.FinMap as map
use Rattle.std.specs.FinMap.Entries as list
use Rattle.off_defs.specs.declared.keys.Key.{Key}
use Rattle.off_defs.specs.declared.tables.Row.{Row}
use Rattle.off_defs.specs.declared.writes.Write.{Write}
use Rattle.off_defs.specs.Keys.{key_cmp}
use Rattle.off_defs.specs.State.{Tables}
use Rattle.off_defs.specs.Tables.{with_row, without, row_at, written, write_all, is_after, behind, next_entry, doubt_behind}
use Rattle.off_defs.proofs.KeyLemmas.{key_total, key_exact}
use Rattle.off_defs.proofs.EntryLemmas.{is_equal, walk_goes, filter_none, entries_left}

-- two keys that the order takes for equal are equal, and a key is equal to itself
pub same_key : (a b : Key) → eq_by_cmp key_cmp a b ≡ true → a ≡ b
same_key a b e = key_exact a b (is_equal (key_cmp a b) e)

pub own_key : (a : Key) → eq_by_cmp key_cmp a a ≡ true
own_key a = ap is_eq (tied_itself key_total a)

-- tables in which each key has the same row are the same
pub same_tables : (t u : Tables) → ((key : Key) → row_at t key ≡ row_at u key) → t ≡ u
same_tables t u same = map.same_map key_total key_exact t u same

-- the row of a key after a write
pub row_with : (t : Tables) (key : Key) (row : Row) (q : Key) → row_at (with_row t key row) q ≡ cond (eq_by_cmp key_cmp q key) (Some row) (row_at t q)
row_with t key row q = map.get-insert key_total t key row q

pub row_with_here : (t : Tables) (key : Key) (row : Row) → row_at (with_row t key row) key ≡ Some row
row_with_here t key row = row_with t key row key ∙ ap (λ b. cond b (Some row) (row_at t key)) (own_key key)

pub row_without : (t : Tables) (key q : Key) → row_at (without t key) q ≡ cond (eq_by_cmp key_cmp q key) None (row_at t q)
row_without t key q = map.get-remove key_total t key q

pub row_without_here : (t : Tables) (key : Key) → row_at (without t key) key ≡ None
row_without_here t key = row_without t key key ∙ ap (λ b. cond b None (row_at t key)) (own_key key)

-- the entries after a write
pub entries_with : (t : Tables) (key : Key) (row : Row) → map.entries (with_row t key row) ≡ list.put key_cmp key row (map.entries t)
entries_with t key row = map.entries-insert key_total t key row

pub entries_without : (t : Tables) (key : Key) → map.entries (without t key) ≡ filter (λ e. not (eq_by_cmp key_cmp key e.0)) (map.entries t)
entries_without t key = entries_left key_cmp key_total key_exact t key

-- What is left of a walk is its next entry, and what is left behind that. Each walk ends, since less is left at each step.
pub next_of : (place : Option Key) (entry : Key × Row) (t : Tables) → next_entry place t ≡ Some entry
    → behind place (map.entries t) ≡ entry ∷ behind (Some entry.0) (map.entries t)
next_of place entry t next = walk_goes key_cmp key_total place entry (map.entries t) (map.entries_sorted t) next

pub next_none : (place : Option Key) (t : Tables) → next_entry place t ≡ None → behind place (map.entries t) ≡ []
next_none place t next = filter_none (is_after place) (map.entries t) next

-- a commit that is in doubt behind writes is so where more may be
pub doubt_more : (writes : List Write) {old new : Type 0} → (new → old) → doubt_behind writes new → doubt_behind writes old
doubt_more [] more doubt = more doubt
doubt_more (write ∷ writes) more doubt = doubt

-- the tables behind one write more
pub written_more : (t : Tables) (ws : List Write) (i : ℕ) (w : Write) → slice_get ws i ≡ Some w → write_all t (take (i + 1) ws) ≡ written (write_all t (take i ws)) w
written_more t ws i w is = ap (λ n. write_all t (take n ws)) (add-one i) ∙ go t ws i is
  where
    go : (b : Tables) (xs : List Write) (k : ℕ) → slice_get xs k ≡ Some w → write_all b (take (suc k) xs) ≡ written (write_all b (take k xs)) w
    go b [] k e = cc
    go b (x ∷ xs) zero e = let same : x ≡ w = cc in ap (λ (y : Write). written b y) same
    go b (x ∷ xs) (suc k) e = go (written b x) xs k e
