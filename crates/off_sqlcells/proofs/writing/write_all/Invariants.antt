use Rattle.std.proofs.Common.{◌≡◌, take}
use Rattle.sqlite.specs.Effect.{Database}
use Rattle.sqlite.specs.Held.{state}
use Rattle.off_cells.specs.CellsSeen.{CellMap}
use Rattle.off_cells.specs.CellWritten.{write_cells}
use Rattle.off_sqlcells.specs.Stands.{IsSteady, Stays, Within}
use Rattle.off_sqlcells.proofs.writing.write_all.Given as goal

abbrev pub invariant-loop-i : goal.invariant-loop-i
invariant-loop-i g l = record {
  same : l.work.conn.ghost_name ≡ l.initial.work.conn.ghost_name;
  stays : IsSteady g.S.Store → Stays (state g.S.Store l.fn.work.conn.now) (state g.S.Store l.work.conn.now);
  done : IsSteady g.S.Store → (base : Database) (m : CellMap) → Within base (state g.S.Store l.fn.work.conn.now) m
      → Within base (state g.S.Store l.work.conn.now) (write_cells m (take l.i l.writes));
}
