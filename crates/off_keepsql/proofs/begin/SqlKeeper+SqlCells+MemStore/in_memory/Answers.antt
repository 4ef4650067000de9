use Rattle.off_keepsql.proofs.BeginLemmas.{begun_none}
use Rattle.off_keepsql.proofs.begin.SqlKeeper+SqlCells+MemStore.in_memory.Goals as goal

pub returns-in-Ok : goal.returns-in-Ok
returns-in-Ok c = begun_none c.in-Ok.conn _ _ c.begin.result c.in-Ok.ensures.empty c.begin.ensures.begun
