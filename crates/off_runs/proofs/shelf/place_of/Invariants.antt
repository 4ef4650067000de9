-- Those so far are below the number.
use Rattle.std.specs.Prelude.{◌≡◌, ◌≤◌, ◌+◌, ◌-◌, drop, vec_len}
use Rattle.std.specs.List.{prefix_len}
use Rattle.std.specs.Ordering.{nat_cmp, is_gt}
use Rattle.off_runs.specs.Held.{PoolHeld}
use Rattle.off_runs.proofs.shelf.place_of.Given as goal

abbrev pub invariant-seek : goal.invariant-seek
invariant-seek l =
    (l.place + prefix_len (λ (p : PoolHeld). is_gt (nat_cmp l.number p.number)) (drop l.place l.pools.items) ≡ prefix_len (λ (p : PoolHeld). is_gt (nat_cmp l.number p.number)) l.pools.items)
    × (l.place ≤ vec_len l.pools)

abbrev pub decreases-seek : goal.decreases-seek
decreases-seek l = vec_len l.pools - l.place
