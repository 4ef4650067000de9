-- Cells: values of bytes, each under its own key of bytes. What is read of them, and what is seen
-- of an object that has them.
use Rattle.std.specs.Prelude.{ℕ, Bool, true, Option, Some, None, List}
use Rattle.std.specs.List.{find}
use Rattle.std.specs.Ordering.{nat_cmp, is_lt}
use Rattle.std.specs.Cmp.Lexicographic.{slice_cmp}
use Rattle.std.specs.FinMap as map

-- a cell: its key's bytes and its value's
abbrev pub Cell : Type 0
Cell = List ℕ × List ℕ

-- cells by key, in the order of lists of bytes
abbrev pub CellMap : Type 0
CellMap = map.FinMap (slice_cmp nat_cmp) (List ℕ)

-- the value of a key, or None where it has none
abbrev pub cell_at : CellMap → List ℕ → Option (List ℕ)
cell_at cells ident = map.get cells ident

-- whether a cell lies behind a place of a walk: a key, or None before the first
abbrev pub is_behind : Option (List ℕ) → Cell → Bool
is_behind None cell = true
is_behind (Some ident) cell = is_lt (slice_cmp nat_cmp ident cell.0)

-- the cell of the least key behind a place, or None where there is none
abbrev pub next_cell : Option (List ℕ) → CellMap → Option Cell
next_cell place cells = find (is_behind place) (map.entries cells)

-- `cells` may be told or not; where the object is `up`, one value at most is told. `faults` counts
-- the failed calls, and `calls` all calls.
pub record CellsSeen : Type 1 where
  pub cells : CellMap → Type 0
  pub up : Type 0
  pub faults : ℕ
  pub calls : ℕ
