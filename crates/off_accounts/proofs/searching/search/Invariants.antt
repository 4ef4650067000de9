-- No row up to the place is sought, and each was looked at by one call.
use Rattle.std.proofs.Common.{Some}
use Rattle.off_outside.specs.KeeperCalls.{Reads}
use Rattle.off_readers.specs.Walks.{room}
use Rattle.off_accounts.specs.Walking.{AllBehind, is_reached, looks_at}
use Rattle.off_accounts.proofs.SearchLemmas.{IsLeft}
use Rattle.off_accounts.proofs.WalkedLemmas.{Walked}
use Rattle.off_accounts.proofs.searching.search.Given as goal

abbrev pub invariant-walk : goal.invariant-walk
invariant-walk g l = record {
  told : Reads (IsLeft l.sought l.place) (g.K.Keeper.seen l.initial.keeper) (g.K.Keeper.seen l.keeper);
  walked : Walked (looks_at l.sought) l.place (g.K.Keeper.seen l.initial.keeper) (g.K.Keeper.seen l.keeper);
  begins : AllBehind (is_reached l.sought) l.place;
}

abbrev pub decreases-walk : goal.decreases-walk
decreases-walk g l = room (Some l.place)
