use Rattle.off_keepsql.proofs.BeginLemmas.{keeper_begins}
use Rattle.off_keepsql.proofs.begin.SqlKeeper+SqlCells+S.begin.Goals as goal

pub returns-in-Ok-clause-begun : goal.returns-in-Ok-clause-begun
returns-in-Ok-clause-begun g c =
    keeper_begins g.S.Store c.args.conn _ _ (rw (← c.over.ensures.cells) at c.in-Ok.ensures.begun) (rw (← c.over.ensures.cells) at c.over.ensures.tells)
