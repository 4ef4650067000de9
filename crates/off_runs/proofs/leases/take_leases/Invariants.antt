-- The leases of the writes so far are taken.
use Rattle.std.proofs.Common.{◌≡◌, take, vec_len}
use Rattle.std.specs.Vec.{vec_capacity}
use Rattle.off_runs.specs.Leases.{LeasesTaken}
use Rattle.off_runs.proofs.leases.take_leases.Given as goal

abbrev pub invariant-loop-place : goal.invariant-loop-place
invariant-loop-place l = record {
  taken : LeasesTaken (take l.place l.writes) l.fn.pools.items l.pools.items;
  len : vec_len l.pools ≡ vec_len l.fn.pools;
  capacity : vec_capacity l.pools ≡ vec_capacity l.fn.pools;
}
