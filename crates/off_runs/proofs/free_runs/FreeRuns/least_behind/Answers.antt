use Rattle.std.proofs.Common.{◌≡◌, ◌==◌, ℕ, slice_get, subst}
use Rattle.std.specs.List.{find}
use Rattle.off_defs.specs.declared.tables.Pool.{Pool}
use Rattle.off_runs.specs.Held.{PoolHeld, RunsHeld}
use Rattle.off_runs.proofs.StandLemmas.{least_is}
use Rattle.off_runs.proofs.free_runs.FreeRuns.least_behind.Goals as goal

pub returns : goal.returns
returns c = λ g pool s there.
    least_is c.args.self.now.pools g s c.args.self.now.at (λ (e : ℕ × Pool). e.1.relay.0 == c.args.relay.0) (slice_get c.args.self.now.pools c.place_behind.result) c.least_at.result
    (subst (λ (h : RunsHeld). slice_get h.pools c.place_behind.result ≡ find (λ (p : PoolHeld). p.pool.relay.0 == c.args.relay.0) h.pools) c.self.view_is c.place_behind.ensures) c.least_at.ensures pool there
