use Rattle.std.proofs.Common.{◌≡◌, ◌==◌, ℕ, Some, None, sym, ap, subst, ◌∙◌}
use Rattle.std.specs.List.{find}
use Rattle.off_defs.specs.declared.tables.Pool.{Pool}
use Rattle.off_runs.specs.Held.{PoolHeld, RunsHeld}
use Rattle.off_runs.proofs.PlaceLemmas.{some_there, none_there}
use Rattle.off_runs.proofs.StandLemmas.{hub_found}
use Rattle.off_runs.proofs.free_runs.FreeRuns.hub_behind.Goals as goal

pub returns-in-Some : goal.returns-in-Some
returns-in-Some c = λ g s.
    ap Some c.hub.ensures
    ∙ sym (hub_found c.args.self.now.pools g s (λ (e : ℕ × Pool). e.1.relay.0 == c.args.relay.0) (Some c.in-Some.pool.now)
    (subst (λ (h : RunsHeld). Some c.in-Some.pool.now ≡ find (λ (p : PoolHeld). p.pool.relay.0 == c.args.relay.0) h.pools) c.self.view_is (some_there c.self.inside.pools.items c.deref.result.now c.place_behind-place.result c.in-Some.pool.now _ c.deref.ensures.value c.in-Some.ensures.lookup.3.0 c.in-Some.ensures.lookup.1 c.place_behind-place.ensures)))

pub returns-in-None : goal.returns-in-None
returns-in-None c = λ g s.
    sym (hub_found c.args.self.now.pools g s (λ (e : ℕ × Pool). e.1.relay.0 == c.args.relay.0) None
    (subst (λ (h : RunsHeld). None ≡ find (λ (p : PoolHeld). p.pool.relay.0 == c.args.relay.0) h.pools) c.self.view_is (none_there c.self.inside.pools.items c.deref.result.now c.place_behind-place.result _ c.deref.ensures.value c.in-None.ensures.lookup.3 c.place_behind-place.ensures)))
