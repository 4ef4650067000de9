-- What is taken for the leases so far, and for those behind the place, is all, behind what was there.
use Rattle.std.proofs.Common.{◌++◌, Some}
use Rattle.off_outside.specs.KeeperCalls.{Reads}
use Rattle.off_readers.specs.Walks.{room}
use Rattle.off_readers.proofs.GatherLemmas.{Gathered}
use Rattle.off_runs.proofs.WalkLemmas.{Walked}
use Rattle.off_device_runs.specs.Reading.{lease_put, leases_put}
use Rattle.off_device_runs.proofs.reading.read_leases.Given as goal

abbrev pub invariant-walk : goal.invariant-walk
invariant-walk g l = record {
  read : Reads (Gathered lease_put (λ t. l.initial.taken ++ leases_put t) l.taken (Some l.place)) (g.K.Keeper.seen l.initial.keeper) (g.K.Keeper.seen l.keeper);
  asked : Walked l.place (g.K.Keeper.seen l.initial.keeper) (g.K.Keeper.seen l.keeper);
}

abbrev pub decreases-walk : goal.decreases-walk
decreases-walk g l = room (Some l.place)
