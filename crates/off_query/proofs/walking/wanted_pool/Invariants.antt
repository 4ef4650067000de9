-- No pool up to the place is wanted.
use Rattle.std.proofs.Common.{Some}
use Rattle.off_outside.specs.KeeperCalls.{Reads}
use Rattle.off_readers.specs.Walks.{room}
use Rattle.off_query.proofs.WalkLemmas.{IsLeft}
use Rattle.off_query.proofs.walking.wanted_pool.Given as goal

abbrev pub invariant-walk : goal.invariant-walk
invariant-walk g l = Reads (IsLeft l.wanted l.place) (g.K.Keeper.seen l.initial.keeper) (g.K.Keeper.seen l.keeper)

abbrev pub decreases-walk : goal.decreases-walk
decreases-walk g l = room (Some l.place)
