use Rattle.std.proofs.Common.{length}
use Rattle.off_outside.specs.KeeperCalls.{Reads, Spent}
use Rattle.off_readers.specs.Walks.{room}
use Rattle.off_readers.proofs.GatherLemmas.{Gathered}
use Rattle.off_opening.specs.Marks.{marks_of}
use Rattle.off_opening.proofs.MarkLemmas.{give_mark}
use Rattle.off_opening.proofs.marks.read_marks.Given as goal

abbrev pub invariant-walk : goal.invariant-walk
invariant-walk g l = record {
  read : Reads (Gathered give_mark marks_of l.marks.items l.place) (g.K.Keeper.seen l.fn.keeper) (g.K.Keeper.seen l.keeper);
  calls : Spent (length l.marks.items) (g.K.Keeper.seen l.fn.keeper) (g.K.Keeper.seen l.keeper);
}

abbrev pub decreases-walk : goal.decreases-walk
decreases-walk g l = room l.place
