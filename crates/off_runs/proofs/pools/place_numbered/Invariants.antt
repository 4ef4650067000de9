-- None of those so far is the one.
use Rattle.std.specs.Prelude.{◌≡◌, ◌≤◌, ◌-◌, ◌==◌, drop, vec_len}
use Rattle.std.specs.List.{find}
use Rattle.off_runs.specs.Held.{PoolHeld}
use Rattle.off_runs.proofs.pools.place_numbered.Given as goal

abbrev pub invariant-seek : goal.invariant-seek
invariant-seek l = (find (λ (p : PoolHeld). p.number == l.number) (drop l.place l.pools.items) ≡ find (λ (p : PoolHeld). p.number == l.number) l.pools.items) × (l.place ≤ vec_len l.pools)

abbrev pub decreases-seek : goal.decreases-seek
decreases-seek l = vec_len l.pools - l.place
