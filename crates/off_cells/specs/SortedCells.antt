-- Cells in one list, in the order of their keys.
use Rattle.std.specs.Prelude.{ℕ, Bool, false, List, [], ◌∷◌, IsTrue, refl}
use Rattle.std.specs.List.{prefix_len}
use Rattle.std.specs.Ordering.{nat_cmp, is_gt, is_eq}
use Rattle.std.specs.Cmp.Lexicographic.{slice_cmp}
use Rattle.std.specs.FinMap as map
use Rattle.std.specs.Coded.{Coded, code_by, coded×, coded_ℕ, coded_list}
use Rattle.off_outside.specs.InMemory.{CallsHeld}
use Rattle.off_cells.specs.CellsSeen.{Cell, CellMap}

abbrev pub AreInOrder : List Cell → Type 0
AreInOrder cells = IsTrue (map.is_sorted (slice_cmp nat_cmp) cells)

-- how many stand before a key's place
abbrev pub place_of : List ℕ → List Cell → ℕ
place_of key cells = prefix_len (λ cell. is_gt (slice_cmp nat_cmp key cell.0)) cells

-- whether the key's own stands in front
abbrev pub is_in_front : List ℕ → List Cell → Bool
is_in_front key [] = false
is_in_front key (cell ∷ cells) = is_eq (slice_cmp nat_cmp key cell.0)

-- cells, and for how many more there is room
pub record SortedHeld : Type 0 where
  pub cells : CellMap
  pub room : ℕ

abbrev pub cells_code : Coded CellMap
cells_code = map.code (coded_list coded_ℕ) (coded_list coded_ℕ)

abbrev pub sorted_code : Coded SortedHeld
sorted_code =
    code_by (CellMap × ℕ) (coded× cells_code coded_ℕ) (λ s. (s.cells, s.room))
    (λ p. record { cells = p.0; room = p.1 }) (λ _. refl)

-- what cells in memory hold
pub record MemCellsHeld : Type 0 where
  pub cells : CellMap
  pub room : ℕ
  pub calls : CallsHeld
  pub faults : ℕ

abbrev pub mem_code : Coded MemCellsHeld
mem_code =
    code_by ((CellMap × ℕ) × ((List ℕ × ℕ) × ℕ))
    (coded× (coded× cells_code coded_ℕ) (coded× (coded× (coded_list coded_ℕ) coded_ℕ) coded_ℕ))
    (λ m. ((m.cells, m.room), ((m.calls.listed, m.calls.made), m.faults)))
    (λ p. record {
      cells = p.0.0;
      room = p.0.1;
      calls = record { listed = p.1.0.0; made = p.1.0.1 };
      faults = p.1.1;
    })
    (λ _. refl)
