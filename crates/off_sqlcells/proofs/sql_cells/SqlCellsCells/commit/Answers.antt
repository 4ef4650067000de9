use Rattle.off_sqlcells.proofs.SeenLemmas.{wrote_written, refused_kept}
use Rattle.off_sqlcells.proofs.sql_cells.SqlCellsCells.commit.Goals as goal

pub returns-in-Ok-clause-told : goal.returns-in-Ok-clause-told
returns-in-Ok-clause-told g c =
    wrote_written g.S.Store c.args.self.now.conn c.commit_all.new.conn c.args.writes.now c.args.self.now.faults c.args.self.now.calls c.commit_all.new.calls c.in-Ok.ensures.done

pub returns-in-Err-clause-told : goal.returns-in-Err-clause-told
returns-in-Err-clause-told g c =
    refused_kept g.S.Store c.args.self.now.conn c.commit_all.new.conn c.counted.new.conn c.counted.result c.args.self.now.faults c.counted.new.faults c.args.self.now.calls c.commit_all.new.calls
    c.in-Err.ensures.undone c.counted.ensures.kept c.counted.ensures.counts

pub returns-in-Err-clause-cause : goal.returns-in-Err-clause-cause
returns-in-Err-clause-cause g c = λ steady. record {
  between = c.commit_all.new.conn;
  refused = c.in-Err.refused;
  cause = c.in-Err.ensures.cause steady;
  told = c.counted.ensures.told steady;
}
