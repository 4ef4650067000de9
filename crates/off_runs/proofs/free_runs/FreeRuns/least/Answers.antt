use Rattle.std.proofs.Common.{◌≡◌, ◌==◌, ℕ, slice_get, subst}
use Rattle.std.specs.List.{find}
use Rattle.off_defs.specs.declared.tables.Pool.{Pool}
use Rattle.off_runs.specs.Held.{PoolHeld, RunsHeld}
use Rattle.off_runs.proofs.StandLemmas.{least_is}
use Rattle.off_runs.proofs.free_runs.FreeRuns.least.Goals as goal

pub returns : goal.returns
returns c = λ g pool s there.
    least_is c.args.self.now.pools g s c.args.self.now.at (λ (e : ℕ × Pool). e.0 == c.args.number) (slice_get c.args.self.now.pools c.place_numbered.result) c.least_at.result
    (subst (λ (h : RunsHeld). slice_get h.pools c.place_numbered.result ≡ find (λ (p : PoolHeld). p.number == c.args.number) h.pools) c.self.view_is c.place_numbered.ensures) c.least_at.ensures pool there
