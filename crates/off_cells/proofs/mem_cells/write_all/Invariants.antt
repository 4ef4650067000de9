use Rattle.std.proofs.Common.{◌≡◌, ◌≤◌, length}
use Rattle.off_cells.specs.CellWritten.{write_cells}
use Rattle.off_cells.proofs.mem_cells.write_all.Given as goal

abbrev pub invariant-loop-write : goal.invariant-loop-write
invariant-loop-write l = record {
  cells : write_cells l.cells.cells l.write-iterator.rest.items ≡ write_cells l.fn.cells.cells l.fn.writes.items;
  room : length l.write-iterator.rest.items ≤ l.cells.room;
}
