-- The entries of a keeper in memory as they are held: in shelves of at most 64.
use Rattle.std.specs.Prelude.{◌≡◌, ℕ, ◌+◌, ◌<◌, ◌≤◌, Bool, true, not, List, [], ◌∷◌, ◌++◌, length, take, drop, suc, slice_index_or}
use Rattle.std.specs.List.{flat_map, All}
use Rattle.std.specs.Ordering.{is_lt}
use Rattle.off_defs.specs.declared.keys.Key.{Key}
use Rattle.off_defs.specs.declared.tables.Row.{Row}
use Rattle.off_defs.specs.Keys.{key_cmp}

abbrev pub Shelf : Type 0
Shelf = List (Key × Row)

-- the entries of all shelves
abbrev pub entries_on : List Shelf → List (Key × Row)
entries_on shelves = flat_map (λ shelf. shelf) shelves

-- the key that stands beside a shelf is that of its first entry
abbrev pub StartsAt : Key → Shelf → Type 0
StartsAt key [] = Unit {0}
StartsAt key (e ∷ es) = key ≡ e.0

-- whether a shelf's first entry has this key or one below it
abbrev pub starts_by : Key → Shelf → Bool
starts_by key [] = true
starts_by key (e ∷ es) = not (is_lt (key_cmp key e.0))

-- a shelf has an entry at least, and room for one more
abbrev pub IsStocked : Shelf → Type 0
IsStocked shelf = (0 < length shelf) × (length shelf < 64)

-- the shelves in use, and those in stock, which are empty. The list of the former has room for all
pub record ShelvesHeld (used stock : List Shelf) (places : ℕ) : Type 0 where
  pub stocked : All IsStocked used
  pub empty : All (λ shelf. shelf ≡ []) stock
  pub room : length used + length stock ≤ places

-- the shelves with one of them parted in two
abbrev pub cut_at : ℕ → ℕ → List Shelf → List Shelf
cut_at at cut shelves =
    let shelf : Shelf = slice_index_or shelves at [] in
    take at shelves ++ take cut shelf ∷ drop cut shelf ∷ drop (suc at) shelves

-- the entries of a table, and how many empty shelves it has in stock
pub record TableHeld : Type 0 where
  pub entries : List (Key × Row)
  pub spare : ℕ
