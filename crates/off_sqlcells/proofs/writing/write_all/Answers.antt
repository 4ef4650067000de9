use Rattle.std.proofs.Common.{◌∙◌, sym, ap, subst, take, arith}
use Rattle.sqlite.specs.Held.{state}
use Rattle.off_base.proofs.TreeLemmas.{taken}
use Rattle.off_cells.specs.CellsSeen.{CellMap}
use Rattle.off_cells.specs.CellWritten.{write_cells}
use Rattle.off_sqlcells.specs.Stands.{Within}
use Rattle.off_sqlcells.proofs.CallLemmas.{got_has, one_more_write, whole_taken, stays_then}
use Rattle.std.proofs.lemmas.Result.{err_from_is_err_and}
use Rattle.off_sqlcells.proofs.writing.write_all.Goals as goal

pub returns-in_err-write_cell-clause-stays : goal.returns-in_err-write_cell-clause-stays
returns-in_err-write_cell-clause-stays g c = λ steady. stays_then _ _ _ (c.loop-i.invariant.stays steady) (c.write_cell.ensures.stays steady)

pub loop-i-preserved : goal.loop-i-preserved
loop-i-preserved g c = record {
  same = c.write_cell.ensures.same ∙ c.loop-i.invariant.same;
  stays = λ steady. stays_then _ _ _ (c.loop-i.invariant.stays steady) (c.write_cell.ensures.stays steady);
  done = λ steady base m within.
      subst (λ (n : CellMap). Within base (state g.S.Store c.write_cell.new.work.conn.now) n)
      (sym (ap (write_cells m) (taken c.args.writes.now c.loop-i.i c.get.result.now c.get.ensures) ∙ one_more_write m (take c.loop-i.i c.args.writes.now) c.get.result.now))
      (c.in_ok-write_cell.ensures.done steady base (write_cells m (take c.loop-i.i c.args.writes.now)) (c.loop-i.invariant.done steady base m within));
}

pub returns-clause-done : goal.returns-clause-done
returns-clause-done g c = λ steady base m within.
    subst (λ (ws : _). Within base (state g.S.Store c.loop-i.work.conn.now) (write_cells m ws))
    (whole_taken c.args.writes.now c.loop-i.i (omega (arith, c.loop-i-test.false, c.len-i-end.ensures))) (c.loop-i.invariant.done steady base m within)

pub returns-in_err-write_cell-clause-cause : goal.returns-in_err-write_cell-clause-cause
returns-in_err-write_cell-clause-cause g c = λ steady.
    let p = err_from_is_err_and c.from_residual.result c.from_residual.ensures.1 in
    rw (p.1, p.2) (record {
      write = c.get.result.now;
      among = got_has c.args.writes.now c.loop-i.i c.get.result.now c.get.ensures;
      at = c.loop-i.work.conn.now;
      stays = c.loop-i.invariant.stays steady;
      fails = c.in_err-write_cell.ensures.cause steady;
    })
