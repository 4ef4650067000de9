-- How the tables are read and written: one row, walks in the order of keys, and writes.
use Rattle.std.specs.Prelude.{Bool, true, Option, Some, None, List, [], ◌∷◌}
use Rattle.std.specs.List.{filter, find}
use Rattle.std.specs.Ordering.{is_lt}
use Rattle.std.specs.FinMap as map
use Rattle.off_defs.specs.declared.keys.Key.{Key}
use Rattle.off_defs.specs.declared.tables.Row.{Row}
use Rattle.off_defs.specs.declared.writes.Write.{Write}
use Rattle.off_defs.specs.declared.writes.Write.TheVariants.{Put, Drop}
use Rattle.off_defs.specs.Keys.{key_cmp}
use Rattle.off_defs.specs.State.{Tables}

-- the row of a key, or None where the key has none
abbrev pub row_at : Tables → Key → Option Row
row_at tables key = map.get tables key

-- the tables in which the key has this row
abbrev pub with_row : Tables → Key → Row → Tables
with_row tables key row = map.insert tables key row

-- the tables in which the key has no row; they are the same where it had none
abbrev pub without : Tables → Key → Tables
without tables key = map.remove tables key

-- the key whose row a write changes
abbrev pub key_written : Write → Key
key_written (Put key row) = key
key_written (Drop key) = key

-- the tables after one write
abbrev pub written : Tables → Write → Tables
written tables (Put key row) = with_row tables key row
written tables (Drop key) = without tables key

-- the tables after writes in order: of two writes to one key the later one stands
abbrev pub write_all : Tables → List Write → Tables
write_all tables [] = tables
write_all tables (write ∷ writes) = write_all (written tables write) writes

-- Whether a commit that was in doubt is so behind these writes: one that is done leaves none in
-- doubt.
abbrev pub doubt_behind : List Write → Type 0 → Type 0
doubt_behind [] doubt = doubt
doubt_behind (write ∷ writes) doubt = ⊥

-- A walk goes over the entries in the order of their keys. Its place is the key that it came to
-- last, or None before the first. Whether an entry lies behind a place:
abbrev pub is_after : Option Key → Key × Row → Bool
is_after None entry = true
is_after (Some key) entry = is_lt (key_cmp key entry.0)

-- what is left of a walk, of entries in the order of their keys
abbrev pub behind : Option Key → List (Key × Row) → List (Key × Row)
behind place entries = filter (is_after place) entries

-- the entry of the least key behind a place, or None where there is none
abbrev pub next_entry : Option Key → Tables → Option (Key × Row)
next_entry place tables = find (is_after place) (map.entries tables)
