-- When the rows of the table are cells, and when they hold them for the statements to work on.
use Rattle.std.specs.Prelude.{◌≡◌, ℕ, ℤ, List, Some}
use Rattle.std.specs.FinMap as map
use Rattle.sqlite_value.specs.Order.{Row, column}
use Rattle.sqlite_trees.specs.Tree.{rowid}
use Rattle.sqlite_rules.specs.Lists.{Has}
use Rattle.off_cells.specs.CellsSeen.{CellMap}
use Rattle.off_sqlcells.specs.Office.{cell_row}

-- a row that is one of the cells
pub record IsCellOf (m : CellMap) (row : Row) : Type 0 where
  pub id : ℤ
  pub ident : List ℕ
  pub val : List ℕ
  pub is : row ≡ cell_row id ident val
  pub held : map.get m ident ≡ Some val

-- each row is a cell, and each cell a row
pub record AreCells (table : List Row) (m : CellMap) : Type 0 where
  pub cells : (row : Row) → Has table row → IsCellOf m row
  pub there : (ident val : List ℕ) → map.get m ident ≡ Some val
      → (id : ℤ) × Has table (cell_row id ident val)

-- The rows are the cells, whatever their keys, and no two rows share a rowid or a key.
pub record Holds (table : List Row) (m : CellMap) : Type 0 where
  pub are : AreCells table m
  pub apart : (a b : Row) → Has table a → Has table b → rowid a ≡ rowid b → a ≡ b
  pub single : (a b : Row) → Has table a → Has table b → column a 1 ≡ column b 1 → a ≡ b
