-- The pools of the writes so far are taken, and for those ahead there is a spare each.
use Rattle.std.proofs.Common.{◌≡◌, ℕ, Option, ◌+◌, ◌≤◌, take, drop, vec_len}
use Rattle.std.specs.Vec.{vec_capacity}
use Rattle.off_defs.specs.declared.tables.Pool.{Pool}
use Rattle.off_runs.specs.Held.{Ground}
use Rattle.off_runs.specs.Leases.{pools_after, pool_puts}
use Rattle.off_runs.specs.Shelf.{Shelved}
use Rattle.off_runs.proofs.leases.take_pools.Given as goal

abbrev pub invariant-loop-place : goal.invariant-loop-place
invariant-loop-place l = record {
  shelved : (g : Ground) (by : ℕ → Option Pool) → Shelved g by l.fn.pools.items l.fn.aside.items → Shelved g (pools_after by (take l.place l.writes)) l.pools.items l.aside.items;
  kept : vec_capacity l.fn.spare ≤ vec_capacity l.spare;
  room : vec_capacity l.fn.pools ≤ vec_capacity l.pools;
  room_aside : vec_capacity l.fn.aside ≤ vec_capacity l.aside;
  all : vec_len l.pools + vec_len l.aside + vec_len l.spare ≡ vec_len l.fn.pools + vec_len l.fn.aside + vec_len l.fn.spare;
  spare : pool_puts (drop l.place l.writes) ≤ vec_len l.spare;
}
