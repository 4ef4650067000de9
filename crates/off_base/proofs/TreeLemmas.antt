-- Rows against lists of settings, and how long a spelling is.
use Rattle.std.proofs.Common.{◌≡◌, ℕ, zero, suc, ◌+◌, ◌*◌, ◌≤◌, List, [], ◌∷◌, ◌++◌, length, take, drop, refl, ap, ◌∙◌, arith, length-append, Some}
use Rattle.std.specs.List.{slice_get}
use Rattle.std.proofs.lemmas.List.{take_more, drop_more}
use Rattle.std.proofs.lemmas.Option.{slice_get_within, get_or_from_slice_get}
use Rattle.off_base.specs.Tree.{Tree, Row, leaf, group, no_more, followed, row_items, row_of, spelled, spelled_row, spelling, RowFits, AllFit, tree_length, row_length, trees_length, tree_size, trees_size}
use Rattle.off_base.specs.SettingFalls.{row_size-row_of}

pub row_of-row_items : (r : Row) → row_of (row_items r) ≡ r
row_of-row_items no_more = refl
row_of-row_items (followed t r) = ap (followed t) (row_of-row_items r)

pub spelled_row-row_of : (ts : List Tree) → spelled_row (row_of ts) ≡ spelling ts
spelled_row-row_of [] = refl
spelled_row-row_of (t ∷ ts) = ap (λ (x : List ℕ). spelled t ++ x) (spelled_row-row_of ts)

pub RowFits-row_of : (ts : List Tree) → AllFit ts → RowFits (row_of ts)
RowFits-row_of [] fits = tt
RowFits-row_of (t ∷ ts) fits = (fits.0, RowFits-row_of ts fits.1)

pub AllFit-row_items : (r : Row) → RowFits r → AllFit (row_items r)
AllFit-row_items no_more fits = tt
AllFit-row_items (followed t r) fits = (fits.0, AllFit-row_items r fits.1)

pub row_length-row_of : (ts : List Tree) → row_length (row_of ts) ≡ trees_length ts
row_length-row_of [] = refl
row_length-row_of (t ∷ ts) = omega (arith, row_length-row_of ts)

-- a spelling has the length that is said for all trees
mutual
  pub length-spelled : (t : Tree) → length (spelled t) ≡ tree_length t
  length-spelled (leaf code value) = omega arith
  length-spelled (group code parts) = omega (arith, length-spelled_row parts)

  pub length-spelled_row : (r : Row) → length (spelled_row r) ≡ row_length r
  length-spelled_row no_more = refl
  length-spelled_row (followed t r) = omega (arith, length-append (spelled t) (spelled_row r), length-spelled t, length-spelled_row r)

pub length-spelling : (ts : List Tree) → length (spelling ts) ≡ trees_length ts
length-spelling [] = refl
length-spelling (t ∷ ts) = omega (arith, length-append (spelled t) (spelling ts), length-spelled t, length-spelling ts)

-- the setting at a place is no larger than all of them
pub size_at : (ts : List Tree) (i : ℕ) (t : Tree) → slice_get ts i ≡ Some t → tree_size t ≤ trees_size ts
size_at [] i t e = cc
size_at (u ∷ ts) zero t e = let same : u ≡ t = cc in omega (arith, ap tree_size same)
size_at (u ∷ ts) (suc i) t e = omega (arith, size_at ts i t e)

-- what stands at a place is the last of those up to it, and the first of those from it on
pub taken : {A : Type 0} (xs : List A) (i : ℕ) (x : A) → slice_get xs i ≡ Some x → take (i + 1) xs ≡ take i xs ++ x ∷ []
taken {A} xs i x e = take_more xs i x (slice_get_within xs i x e) ∙ ap (λ (y : A). take i xs ++ y ∷ []) (get_or_from_slice_get xs i x x e)

pub dropped : {A : Type 0} (xs : List A) (i : ℕ) (x : A) → slice_get xs i ≡ Some x → drop i xs ≡ x ∷ drop (i + 1) xs
dropped {A} xs i x e = drop_more xs i x (slice_get_within xs i x e) ∙ ap (λ (y : A). y ∷ drop (i + 1) xs) (get_or_from_slice_get xs i x x e)

-- the parts of a group are smaller than the group, and than settings that it is one of
pub parts_smaller : (code : ℕ) (parts : List Tree) (t : Tree) → t ≡ group code (row_of parts) → 2 * trees_size parts + 2 ≤ 2 * tree_size t
parts_smaller code parts t is = omega (arith, ap tree_size is, row_size-row_of parts)
