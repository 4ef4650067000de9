use Rattle.std.proofs.Common.{◌≡◌, Some, None, ap, subst, ◌∙◌}
use Rattle.std.specs.List.{find}
use Rattle.off_runs.specs.Runs.{in_pool, is_open}
use Rattle.off_runs.specs.Held.{PoolHeld, RunsHeld, expiry_at}
use Rattle.off_runs.proofs.PlaceLemmas.{some_there, none_there}
use Rattle.off_runs.proofs.StandLemmas.{open_there, not_open}
use Rattle.off_runs.proofs.free_runs.FreeRuns.is_free.Goals as goal

pub returns-in-Some : goal.returns-in-Some
returns-in-Some c = λ g s.
    c.is_open.ensures
    ∙ ap (λ (h : RunsHeld). is_open (expiry_at c.in-Some.pool.now) h.at c.in-Some.pool.now.pool c.args.address.0) c.self.view_is
    ∙ open_there c.args.self.now.pools g s c.args.self.now.at c.args.address.0 c.in-Some.pool.now
    (subst (λ (h : RunsHeld). Some c.in-Some.pool.now ≡ find (λ (p : PoolHeld). in_pool p.pool c.args.address.0) h.pools) c.self.view_is (some_there c.self.inside.pools.items c.deref.result.now c.place_with-place.result c.in-Some.pool.now _ c.deref.ensures.value c.in-Some.ensures.lookup.3.0 c.in-Some.ensures.lookup.1 c.place_with-place.ensures))

pub returns-in-None : goal.returns-in-None
returns-in-None c = λ g s. not_open c.args.self.now.pools g s c.args.self.now.at c.args.address.0
    (subst (λ (h : RunsHeld). None ≡ find (λ (p : PoolHeld). in_pool p.pool c.args.address.0) h.pools) c.self.view_is (none_there c.self.inside.pools.items c.deref.result.now c.place_with-place.result _ c.deref.ensures.value c.in-None.ensures.lookup.3 c.place_with-place.ensures))
