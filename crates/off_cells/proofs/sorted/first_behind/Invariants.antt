-- No cell so far lies behind the place.
use Rattle.std.proofs.Common.{◌≡◌, ◌-◌, ◌≤◌, vec_len, drop}
use Rattle.std.specs.List.{find as first_of_all}
use Rattle.off_cells.specs.CellsSeen.{is_behind}
use Rattle.off_cells.proofs.sorted.first_behind.Given as goal

abbrev pub invariant-cells : goal.invariant-cells
invariant-cells l = (first_of_all (is_behind l.place) (drop l.at l.cells.items) ≡ first_of_all (is_behind l.place) l.cells.items) × (l.at ≤ vec_len l.cells)

abbrev pub decreases-cells : goal.decreases-cells
decreases-cells l = vec_len l.cells - l.at
