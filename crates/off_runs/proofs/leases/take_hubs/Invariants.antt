-- The hubs of the writes so far are taken.
use Rattle.std.proofs.Common.{◌≡◌, take, vec_len}
use Rattle.std.specs.Vec.{vec_capacity}
use Rattle.off_runs.specs.Leases.{HubsTaken}
use Rattle.off_runs.proofs.leases.take_hubs.Given as goal

abbrev pub invariant-loop-place : goal.invariant-loop-place
invariant-loop-place l = record {
  taken : HubsTaken (take l.place l.writes) l.fn.pools.items l.pools.items;
  len : vec_len l.pools ≡ vec_len l.fn.pools;
  capacity : vec_capacity l.pools ≡ vec_capacity l.fn.pools;
}
