-- The entries of a keeper in memory, in the order of their keys.
use Rattle.std.specs.Prelude.{◌≡◌, ℕ, ◌<◌, ◌≤◌, Bool, false, not, Option, List, [], ◌∷◌, length, take, drop}
use lib.Dec.{T}
use Rattle.std.specs.List.{filter, find}
use Rattle.std.specs.Ordering.{eq_by_cmp, is_eq}
use Rattle.std.specs.declared.cmp.Ordering.{Ordering}
use Rattle.std.specs.declared.cmp.Ordering.TheVariants.{Greater}
use Rattle.std.specs.FinMap.Entries as list
use Rattle.off_defs.specs.declared.keys.Key.{Key}
use Rattle.off_defs.specs.declared.tables.Row.{Row}
use Rattle.off_defs.specs.declared.writes.Write.{Write}
use Rattle.off_defs.specs.declared.writes.Write.TheVariants.{Put, Drop}
use Rattle.off_defs.specs.Keys.{key_cmp}
use Rattle.off_defs.specs.Tables.{is_after}
use Rattle.off_keepmem.specs.declared.shelf.EntryRef.{EntryRef}

-- the keys rise
unfoldable pub Rises : List (Key × Row) → Type 0
Rises entries = T (list.is_sorted key_cmp entries)

-- the row of a key, the entries with it, and those without it
unfoldable pub row_in : Key → List (Key × Row) → Option Row
row_in key entries = list.find key_cmp key entries

unfoldable pub put_entry : Key → Row → List (Key × Row) → List (Key × Row)
put_entry key row entries = list.put key_cmp key row entries

unfoldable pub but_key : Key → List (Key × Row) → List (Key × Row)
but_key key entries = filter (λ e. not (eq_by_cmp key_cmp key e.0)) entries

-- the first entry behind a place of a walk
unfoldable pub next_in : Option Key → List (Key × Row) → Option (Key × Row)
next_in place entries = find (is_after place) entries

-- how two keys stand to each other
unfoldable pub compared : Key → Key → Ordering
compared a b = key_cmp a b

-- all entries have keys below this one, or above it
abbrev AllBelow : Key → List (Key × Row) → Type 0
AllBelow key [] = Unit {0}
AllBelow key (e ∷ es) = (key_cmp key e.0 ≡ Greater) × AllBelow key es

unfoldable pub AreBelow : Key → List (Key × Row) → Type 0
AreBelow key entries = AllBelow key entries

unfoldable pub AreAbove : Key → List (Key × Row) → Type 0
AreAbove key entries = T (list.below_all key_cmp key entries)

-- no entry has a key below this one, and whether the first has this one
abbrev NoneBelowFirst : Key → List (Key × Row) → Type 0
NoneBelowFirst key [] = Unit {0}
NoneBelowFirst key (e ∷ es) = ¬ (key_cmp key e.0 ≡ Greater)

unfoldable pub NoneBelow : Key → List (Key × Row) → Type 0
NoneBelow key entries = NoneBelowFirst key entries

-- a key parts entries at a place: those in front of it have keys below this one, and no other
-- has
pub record Parts (key : Key) (place : ℕ) (entries : List (Key × Row)) : Type 0 where
  pub within : place ≤ length entries
  pub front : AreBelow key (take place entries)
  pub behind : NoneBelow key (drop place entries)

-- where an entry of this key stands, or would stand in front of another one
pub record IsPlace (key : Key) (place : ℕ) (entries : List (Key × Row)) : Type 0 where
  pub inside : place < length entries
  pub parts : Parts key place entries

abbrev is_first : Key → List (Key × Row) → Bool
is_first key [] = false
is_first key (e ∷ es) = is_eq (key_cmp key e.0)

unfoldable pub is_in_front : Key → List (Key × Row) → Bool
is_in_front key entries = is_first key entries

-- the entries after one write, and after writes in order
abbrev pub entries_written : List (Key × Row) → Write → List (Key × Row)
entries_written entries (Put key row) = put_entry key row entries
entries_written entries (Drop key) = but_key key entries

abbrev pub rows_after : List (Key × Row) → List Write → List (Key × Row)
rows_after entries [] = entries
rows_after entries (write ∷ writes) = rows_after (entries_written entries write) writes

-- an entry that is lent
abbrev pub lent_entry : EntryRef → Key × Row
lent_entry e = (e.key, e.row.now)
