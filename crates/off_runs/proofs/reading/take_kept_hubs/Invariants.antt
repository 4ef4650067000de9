-- The hubs up to the place are taken.
use Rattle.std.proofs.Common.{◌≡◌, Some, vec_len}
use Rattle.std.specs.Vec.{vec_capacity}
use Rattle.off_outside.specs.KeeperCalls.{Reads}
use Rattle.off_readers.specs.Walks.{room}
use Rattle.off_runs.specs.Leases.{HubsTaken}
use Rattle.off_runs.specs.Reading.{hub_put}
use Rattle.off_runs.proofs.ReadLemmas.{only_hubs, TakenUpTo}
use Rattle.off_runs.proofs.WalkLemmas.{Walked}
use Rattle.off_runs.proofs.reading.take_kept_hubs.Given as goal

abbrev pub invariant-walk : goal.invariant-walk
invariant-walk g l = record {
  read : Reads (TakenUpTo 11 hub_put only_hubs HubsTaken l.initial.pools.items l.pools.items l.place) (g.K.Keeper.seen l.initial.keeper) (g.K.Keeper.seen l.keeper);
  asked : Walked l.place (g.K.Keeper.seen l.initial.keeper) (g.K.Keeper.seen l.keeper);
  len : vec_len l.pools ≡ vec_len l.initial.pools;
  capacity : vec_capacity l.pools ≡ vec_capacity l.initial.pools;
}

abbrev pub decreases-walk : goal.decreases-walk
decreases-walk g l = room (Some l.place)
