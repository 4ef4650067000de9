use Rattle.off_outside.specs.KeeperCalls.{Reads}
use Rattle.off_readers.specs.Walks.{room}
use Rattle.off_cached.proofs.ReadLemmas.{ReadTo}
use Rattle.off_cached.proofs.reading.read_rows.Given as goal

abbrev pub invariant-walk : goal.invariant-walk
invariant-walk g l = record {
  read : Reads (ReadTo l.rows.tables l.place) (g.K.Keeper.seen l.fn.store) (g.K.Keeper.seen l.store);
}

abbrev pub decreases-walk : goal.decreases-walk
decreases-walk g l = room l.place
