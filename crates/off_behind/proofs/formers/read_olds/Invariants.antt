-- The leases of the writes so far are read.
use Rattle.std.proofs.Common.{◌≡◌, ◌≤◌, take, length, vec_len}
use Rattle.off_outside.specs.KeeperCalls.{Reads, Spent}
use Rattle.off_behind.specs.Changes.{olds_of}
use Rattle.off_behind.specs.Neighbours.{StandsIn, elsewhere}
use Rattle.off_behind.proofs.formers.read_olds.Given as goal

abbrev pub invariant-loop-place : goal.invariant-loop-place
invariant-loop-place g l = record {
  read : Reads (λ t. StandsIn l.known t → l.olds.items ≡ take l.place (olds_of t l.writes)) (g.K.Keeper.seen l.initial.keeper) (g.K.Keeper.seen l.keeper);
  len : vec_len l.olds ≡ l.place;
  within : l.place ≤ length l.writes;
  spent : Spent (length (elsewhere l.known (take l.place l.writes))) (g.K.Keeper.seen l.initial.keeper) (g.K.Keeper.seen l.keeper);
}
