-- The add-ons of lesser numbers are counted, with a call each.
use Rattle.std.proofs.Common.{◌≡◌, ◌≤◌}
use Rattle.off_outside.specs.KeeperCalls.{Reads, Spent}
use Rattle.off_accounts.proofs.RemovalLemmas.{add_ons_below}
use Rattle.off_accounts.proofs.counting.count_add_ons.Given as goal

abbrev pub invariant-loop-number : goal.invariant-loop-number
invariant-loop-number g l = record {
  few : l.count ≤ l.number;
  counted : Reads (λ t. l.count ≡ add_ons_below t l.n l.number) (g.K.Keeper.seen l.initial.keeper) (g.K.Keeper.seen l.keeper);
  spent : Spent l.number (g.K.Keeper.seen l.fn.keeper) (g.K.Keeper.seen l.keeper);
}
