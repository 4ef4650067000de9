-- The settings of a cable modem's configuration file as trees, and their spelling (CM-SP-MULPIv3.1,
-- annexes C and D): each is a code byte, a length byte and a value. The value of a group is the
-- joined spellings of its parts.
use Rattle.std.specs.Prelude.{ℕ, ◌+◌, ◌≤◌, List, [], ◌∷◌, ◌++◌, length}
use Rattle.std.specs.List.{flat_map, AllByRecursion}

-- a setting: a leaf has bytes, and a group has a row of settings, its parts
mutual
  pub data Tree : Type 0 where
    leaf : ℕ → List ℕ → Tree
    group : ℕ → Row → Tree

  pub data Row : Type 0 where
    no_more : Row
    followed : Tree → Row → Row

-- a row as a list, and back
abbrev pub row_items : Row → List Tree
row_items no_more = []
row_items (followed t r) = t ∷ row_items r

abbrev pub row_of : List Tree → Row
row_of [] = no_more
row_of (t ∷ ts) = followed t (row_of ts)

abbrev pub code_of : Tree → ℕ
code_of (leaf code value) = code
code_of (group code parts) = code

-- the bytes of a setting: its code, the number of bytes of its value, its value
abbrev mutual
  pub spelled : Tree → List ℕ
  spelled (leaf code value) = code ∷ length value ∷ value
  spelled (group code parts) = code ∷ length (spelled_row parts) ∷ spelled_row parts

  pub spelled_row : Row → List ℕ
  spelled_row no_more = []
  spelled_row (followed t r) = spelled t ++ spelled_row r

abbrev pub spelling : List Tree → List ℕ
spelling trees = flat_map spelled trees

-- A length byte says at most 255: so many bytes a leaf's value may have, and the spelling of a
-- group's parts.
abbrev mutual
  pub Fits : Tree → Type 0
  Fits (leaf code value) = length value ≤ 255
  Fits (group code parts) = (length (spelled_row parts) ≤ 255) × RowFits parts

  pub RowFits : Row → Type 0
  RowFits no_more = Unit {0}
  RowFits (followed t r) = Fits t × RowFits r

abbrev pub AllFit : List Tree → Type 0
AllFit trees = AllByRecursion Fits trees

-- The number of bytes of a spelling, for all trees, also for those with a value whose length no
-- byte can say: each setting has two bytes and its value.
abbrev mutual
  pub tree_length : Tree → ℕ
  tree_length (leaf code value) = 2 + length value
  tree_length (group code parts) = 2 + row_length parts

  pub row_length : Row → ℕ
  row_length no_more = 0
  row_length (followed t r) = tree_length t + row_length r

abbrev pub trees_length : List Tree → ℕ
trees_length [] = 0
trees_length (t ∷ ts) = tree_length t + trees_length ts

-- the number of settings, those within groups too
abbrev mutual
  pub tree_size : Tree → ℕ
  tree_size (leaf code value) = 1
  tree_size (group code parts) = 1 + row_size parts

  pub row_size : Row → ℕ
  row_size no_more = 0
  row_size (followed t r) = tree_size t + row_size r

abbrev pub trees_size : List Tree → ℕ
trees_size [] = 0
trees_size (t ∷ ts) = tree_size t + trees_size ts
