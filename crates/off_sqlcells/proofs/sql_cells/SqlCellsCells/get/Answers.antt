use Rattle.std.proofs.Common.{◌≡◌}
use Rattle.off_cells.specs.CellsSeen.{cell_at}
use Rattle.off_sqlcells.proofs.SeenLemmas.{looked_read, refused_kept}
use Rattle.off_sqlcells.proofs.sql_cells.SqlCellsCells.get.Goals as goal

pub returns-in-Ok-clause-told : goal.returns-in-Ok-clause-told
returns-in-Ok-clause-told g c =
    looked_read g.S.Store c.args.self.now.conn c.find_val.new.conn (λ m. c.in-Ok.val ≡ cell_at m c.args.key.now) c.args.self.now.faults c.args.self.now.calls c.one_more-self.result
    (rw c.as_slice.ensures.bytes at c.in-Ok.ensures.found)

pub returns-in-Err-clause-told : goal.returns-in-Err-clause-told
returns-in-Err-clause-told g c =
    refused_kept g.S.Store c.args.self.now.conn c.find_val.new.conn c.counted.new.conn c.counted.result c.args.self.now.faults c.counted.new.faults c.args.self.now.calls c.one_more-self.result
    c.find_val.ensures.kept c.counted.ensures.kept c.counted.ensures.counts

pub returns-in-Err-clause-cause : goal.returns-in-Err-clause-cause
returns-in-Err-clause-cause g c = λ steady. record {
  between = c.find_val.new.conn;
  refused = c.in-Err.refused;
  cause = rw c.as_slice.ensures.bytes at (c.in-Err.ensures.cause steady);
  told = c.counted.ensures.told steady;
}
