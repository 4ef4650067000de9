-- A code for lists of trees: the settings as a list of marks, read back from the right with a stack
-- of rows. A mark is the end of a group's parts, or a code with a leaf's bytes, or a code alone
-- where a group begins.
use Rattle.std.specs.Prelude.{◌≡◌, ℕ, List, [], ◌∷◌, Option, Some, None, refl}
use Rattle.std.proofs.Common.{ap, ◌∙◌}
use Rattle.std.specs.Coded.{Coded, code_by, coded_ℕ, coded_list, coded_option, coded×}
use Rattle.off_base.specs.Tree.{Tree, Row, leaf, group, no_more, followed, row_items, row_of}

abbrev pub Mark : Type 0
Mark = Option (ℕ × Option (List ℕ))

-- the marks of a row, and then more
abbrev mutual
  tree_marks : Tree → List Mark → List Mark
  tree_marks (leaf c v) more = Some (c, Some v) ∷ more
  tree_marks (group c r) more = Some (c, None) ∷ row_marks r (None ∷ more)

  row_marks : Row → List Mark → List Mark
  row_marks no_more more = more
  row_marks (followed t r) more = tree_marks t (row_marks r more)

-- a setting in front of the row that is on top of the stack
abbrev in_front : Tree → List Row → List Row
in_front t [] = []
in_front t (r ∷ rs) = followed t r ∷ rs

abbrev as_group : ℕ → List Row → List Row
as_group c [] = []
as_group c (r ∷ rs) = in_front (group c r) rs

abbrev mark_read : Mark → List Row → List Row
mark_read None rows = no_more ∷ rows
mark_read (Some (c, Some v)) rows = in_front (leaf c v) rows
mark_read (Some (c, None)) rows = as_group c rows

abbrev rows_read : List Mark → List Row
rows_read [] = no_more ∷ []
rows_read (m ∷ ms) = mark_read m (rows_read ms)

abbrev top : List Row → List Tree
top [] = []
top (r ∷ rs) = row_items r

-- what is read behind the marks of a row is that row, where nothing of it had been read
mutual
  tree_read : (t : Tree) (more : List Mark) (r : Row) (rows : List Row) →
      rows_read more ≡ r ∷ rows → rows_read (tree_marks t more) ≡ followed t r ∷ rows
  tree_read (leaf c v) more r rows e = ap (in_front (leaf c v)) e
  tree_read (group c p) more r rows e = ap (as_group c)
      (row_read p (None ∷ more) (r ∷ rows) (ap (λ (x : List Row). no_more ∷ x) e))

  row_read : (p : Row) (more : List Mark) (rows : List Row) → rows_read more ≡ no_more ∷ rows →
      rows_read (row_marks p more) ≡ p ∷ rows
  row_read no_more more rows e = e
  row_read (followed t p) more rows e = tree_read t (row_marks p more) p rows
      (row_read p more rows e)

pub row_items-row_of : (ts : List Tree) → row_items (row_of ts) ≡ ts
row_items-row_of [] = refl
row_items-row_of (t ∷ ts) = ap (λ (x : List Tree). t ∷ x) (row_items-row_of ts)

abbrev pub marks : List Tree → List Mark
marks ts = row_marks (row_of ts) []

abbrev pub trees_read : List Mark → List Tree
trees_read ms = top (rows_read ms)

pub trees_read-marks : (ts : List Tree) → trees_read (marks ts) ≡ ts
trees_read-marks ts = ap top (row_read (row_of ts) [] [] refl) ∙ row_items-row_of ts

abbrev pub coded_trees : Coded (List Tree)
coded_trees =
    code_by (List Mark) (coded_list
    (coded_option (coded× coded_ℕ
    (coded_option (coded_list coded_ℕ))))) marks trees_read trees_read-marks
