-- None of those so far is the one.
use Rattle.std.specs.Prelude.{◌≡◌, ◌≤◌, ◌-◌, drop, vec_len}
use Rattle.std.specs.List.{find}
use Rattle.off_runs.specs.Runs.{in_pool}
use Rattle.off_runs.specs.Held.{PoolHeld}
use Rattle.off_runs.proofs.pools.place_with.Given as goal

abbrev pub invariant-seek : goal.invariant-seek
invariant-seek l = (find (λ (p : PoolHeld). in_pool p.pool l.address.0) (drop l.place l.pools.items) ≡ find (λ (p : PoolHeld). in_pool p.pool l.address.0) l.pools.items) × (l.place ≤ vec_len l.pools)

abbrev pub decreases-seek : goal.decreases-seek
decreases-seek l = vec_len l.pools - l.place
