-- No pool up to the place has the hub, and for each there were two calls.
use Rattle.std.proofs.Common.{Some}
use Rattle.std.specs.Prelude.{nat_lt}
use Rattle.off_defs.specs.Kinds.{kind_of}
use Rattle.off_outside.specs.KeeperCalls.{Reads}
use Rattle.off_readers.specs.Walks.{room}
use Rattle.off_accounts.specs.Walking.{AllBehind}
use Rattle.off_accounts.proofs.HubLemmas.{IsLeft, WalkedHubs}
use Rattle.off_accounts.proofs.hubs.least_of_hub.Given as goal

abbrev pub invariant-walk : goal.invariant-walk
invariant-walk g l = record {
  told : Reads (IsLeft l.hub l.place) (g.K.Keeper.seen l.initial.keeper) (g.K.Keeper.seen l.keeper);
  walked : WalkedHubs l.place (g.K.Keeper.seen l.initial.keeper) (g.K.Keeper.seen l.keeper);
  begins : AllBehind (λ other. nat_lt 5 (kind_of other)) l.place;
}

abbrev pub decreases-walk : goal.decreases-walk
decreases-walk g l = room (Some l.place)
