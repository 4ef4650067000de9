-- All cells so far stand before the key's place.
use Rattle.std.proofs.Common.{◌≡◌, ◌+◌, ◌-◌, ◌≤◌, vec_len, drop}
use Rattle.off_cells.specs.SortedCells.{place_of}
use Rattle.off_cells.proofs.sorted.place_of.Given as goal

abbrev pub invariant-places : goal.invariant-places
invariant-places l = (l.place + place_of l.key (drop l.place l.cells.items) ≡ place_of l.key l.cells.items) × (l.place ≤ vec_len l.cells)

abbrev pub decreases-places : goal.decreases-places
decreases-places l = vec_len l.cells - l.place
