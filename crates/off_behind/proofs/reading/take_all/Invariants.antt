-- The leases up to the place are taken.
use Rattle.std.proofs.Common.{◌≡◌, Some, vec_len}
use Rattle.off_outside.specs.KeeperCalls.{Reads}
use Rattle.off_readers.specs.Walks.{room}
use Rattle.off_runs.proofs.WalkLemmas.{Walked}
use Rattle.off_behind.proofs.ReadLemmas.{TakenUpTo}
use Rattle.off_behind.proofs.reading.take_all.Given as goal

abbrev pub invariant-walk : goal.invariant-walk
invariant-walk g l = record {
  read : Reads (TakenUpTo l.buckets.items l.place) (g.K.Keeper.seen l.initial.keeper) (g.K.Keeper.seen l.keeper);
  asked : Walked l.place (g.K.Keeper.seen l.initial.keeper) (g.K.Keeper.seen l.keeper);
  len : vec_len l.buckets ≡ 16384;
}

abbrev pub decreases-walk : goal.decreases-walk
decreases-walk g l = room (Some l.place)
