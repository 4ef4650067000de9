use Rattle.std.proofs.Common.{refl}
use Rattle.off_sqlcells.proofs.StateLemmas.{put_within}
use Rattle.off_sqlcells.proofs.CallLemmas.{surely, fails_stays}
use Rattle.off_sqlcells.proofs.writing.put_cell.Goals as goal

pub returns-in-Ok-clause-done : goal.returns-in-Ok-clause-done
returns-in-Ok-clause-done g c = λ steady base m within.
    put_within base _ _ c.args.ident.now c.args.val.now c.in-Ok._count m
    (c.in-Ok.ensures.runs (steady c.execute-done.new.self.conn.now.store) (surely _ (λ out. let no = (c.in-Ok.ensures.ended out).0 in absurd cc))) within

pub returns-in-Err-clause-stays : goal.returns-in-Err-clause-stays
returns-in-Err-clause-stays g c = λ steady.
    fails_stays g.S.Store c.args.work.now.conn.now c.execute-done.new.self.conn.now _ _ _ _ refl c.in-Err.ensures.ended (c.in-Err.ensures.runs (steady c.execute-done.new.self.conn.now.store))

pub returns-in-Err-clause-cause : goal.returns-in-Err-clause-cause
returns-in-Err-clause-cause g c = λ steady. (c.in-Err.err, c.from.ensures, c.in-Err.ensures.runs (steady c.execute-done.new.self.conn.now.store))
