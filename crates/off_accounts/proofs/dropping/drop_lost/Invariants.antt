-- The drops of all entries are those written so far and those of the entries behind the place, and
-- each entry so far was one call.
use Rattle.std.proofs.Common.{Some}
use Rattle.off_outside.specs.KeeperCalls.{Reads}
use Rattle.off_readers.specs.Walks.{room}
use Rattle.off_accounts.specs.Walking.{AllBehind, is_past_first, is_lease_in}
use Rattle.off_accounts.proofs.DropLemmas.{IsLeftToDrop}
use Rattle.off_accounts.proofs.WalkedLemmas.{Walked}
use Rattle.off_accounts.proofs.dropping.drop_lost.Given as goal

abbrev pub invariant-walk : goal.invariant-walk
invariant-walk g l = record {
  told : Reads (IsLeftToDrop l.lost l.initial.writes l.writes l.place) (g.K.Keeper.seen l.initial.keeper) (g.K.Keeper.seen l.keeper);
  walked : Walked (is_lease_in l.lost.whose l.lost.old) l.place (g.K.Keeper.seen l.initial.keeper) (g.K.Keeper.seen l.keeper);
  begins : AllBehind (is_past_first l.lost) l.place;
}

abbrev pub decreases-walk : goal.decreases-walk
decreases-walk g l = room (Some l.place)
