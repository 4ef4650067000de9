use Rattle.std.proofs.Common.{◌∙◌, sym, arith}
use Rattle.off_cells.specs.CellsSeen.{is_behind}
use Rattle.off_cells.proofs.SortedLemmas.{first_past, first_here}
use Rattle.off_cells.proofs.sorted.first_behind.Goals as goal

pub returns-else-not-lies_behind : goal.returns-else-not-lies_behind
returns-else-not-lies_behind c =
    first_here (is_behind c.args.place.now) c.args.cells.now.items c.cells.at c.index.result.now (omega (arith, c.cells-test.true, c.len.ensures)) c.index.ensures
    (sym (c.lies_behind.ensures c.index.result.now.1) ∙ c.if-not-lies_behind.false)
    ∙ c.cells.invariant.0

pub returns-after-cells : goal.returns-after-cells
returns-after-cells c =
    first_past (is_behind c.args.place.now) c.args.cells.now.items c.cells.at (omega (arith, c.cells-test.false, c.len.ensures)) ∙ c.cells.invariant.0
