-- Testing settings one by one for their shape.
use Rattle.std.proofs.Common.{◌≡◌, ℕ, ◌+◌, Bool, true, false, List, [], ◌∷◌, drop, refl, sym, ap, ◌∙◌, Some}
use Rattle.std.proofs.lemmas.Bool.{and_parts, and_from, not-true, not_from_false}
use Rattle.std.specs.Prelude.{◌&&◌, ◌↔◌, not, IsTrue}
use Rattle.std.specs.List.{slice_get}
use Rattle.off_base.specs.Tree.{Tree, Row, leaf, group, no_more, followed, row_of}
use Rattle.off_base.proofs.TreeLemmas.{dropped}
use Rattle.off_tlv.specs.Grammar.{Level, in_file, is_code, is_group, inside_of, Shaped, RowShaped, AllShaped}
use Rattle.off_tlv.specs.Front.{is_shaped, row_is_shaped}

mutual
  shaped_from : (t : Tree) (level : Level) → is_shaped level t ≡ true → Shaped level t
  shaped_from (leaf code value) level e =
      let both = and_parts (is_code level code) (not (is_group level code)) e in
      (both.0, not-true (is_group level code) both.1)
  shaped_from (group code parts) level e =
      let one = and_parts (is_code level code) (is_group level code && row_is_shaped (inside_of level code) parts) e in
      let two = and_parts (is_group level code) (row_is_shaped (inside_of level code) parts) one.1 in
      (one.0, two.0, row_shaped_from parts (inside_of level code) two.1)

  row_shaped_from : (r : Row) (level : Level) → row_is_shaped level r ≡ true → RowShaped level r
  row_shaped_from no_more level e = tt
  row_shaped_from (followed t r) level e =
      let both = and_parts (is_shaped level t) (row_is_shaped level r) e in
      (shaped_from t level both.0, row_shaped_from r level both.1)

mutual
  from_shaped : (t : Tree) (level : Level) → Shaped level t → is_shaped level t ≡ true
  from_shaped (leaf code value) level s = and_from (is_code level code) (not (is_group level code)) s.0 (not_from_false (is_group level code) s.1)
  from_shaped (group code parts) level s =
      and_from (is_code level code) (is_group level code && row_is_shaped (inside_of level code) parts) s.0
      (and_from (is_group level code) (row_is_shaped (inside_of level code) parts) s.1 (from_row_shaped parts (inside_of level code) s.2))

  from_row_shaped : (r : Row) (level : Level) → RowShaped level r → row_is_shaped level r ≡ true
  from_row_shaped no_more level s = refl
  from_row_shaped (followed t r) level s = and_from (is_shaped level t) (row_is_shaped level r) (from_shaped t level s.0) (from_row_shaped r level s.1)

all_shaped : (ts : List Tree) (level : Level) → RowShaped level (row_of ts) → AllShaped level ts
all_shaped [] level s = tt
all_shaped (t ∷ ts) level s = (s.0, all_shaped ts level s.1)

shaped_all : (ts : List Tree) (level : Level) → AllShaped level ts → RowShaped level (row_of ts)
shaped_all [] level s = tt
shaped_all (t ∷ ts) level s = (s.0, shaped_all ts level s.1)

pub answers : (b : Bool) (ts : List Tree) → b ≡ row_is_shaped in_file (row_of ts) → IsTrue b ↔ AllShaped in_file ts
answers b ts e = (
  (λ is. all_shaped ts in_file (row_shaped_from (row_of ts) in_file (sym e ∙ is))),
  (λ s. e ∙ from_row_shaped (row_of ts) in_file (shaped_all ts in_file s)),
)

-- one setting on
pub shape_step : (level : Level) (ts : List Tree) (i : ℕ) (t : Tree) → slice_get ts i ≡ Some t
    → row_is_shaped level (row_of (drop i ts)) ≡ (is_shaped level t && row_is_shaped level (row_of (drop (i + 1) ts)))
shape_step level ts i t e = ap (λ (x : List Tree). row_is_shaped level (row_of x)) (dropped ts i t e)

pub shape_fails : (level : Level) (ts : List Tree) (i : ℕ) (t : Tree) (all : Bool) → slice_get ts i ≡ Some t → row_is_shaped level (row_of (drop i ts)) ≡ all → false ≡ is_shaped level t → false ≡ all
shape_fails level ts i t all e so_far here = ap (λ (x : Bool). x && row_is_shaped level (row_of (drop (i + 1) ts))) here ∙ sym (shape_step level ts i t e) ∙ so_far

pub shape_holds : (level : Level) (ts : List Tree) (i : ℕ) (t : Tree) (all : Bool) → slice_get ts i ≡ Some t → row_is_shaped level (row_of (drop i ts)) ≡ all → true ≡ is_shaped level t
    → row_is_shaped level (row_of (drop (i + 1) ts)) ≡ all
shape_holds level ts i t all e so_far here = ap (λ (x : Bool). x && row_is_shaped level (row_of (drop (i + 1) ts))) here ∙ sym (shape_step level ts i t e) ∙ so_far
