use Rattle.std.proofs.Common.{◌==◌, sym, ap, ◌∙◌, arith}
use Rattle.std.proofs.lemmas.Bool.Decides.{nat_tests}
use Rattle.off_defs.specs.declared.tables.Pool.{Pool}
use Rattle.off_runs.specs.Held.{PoolHeld}
use Rattle.off_runs.proofs.PlaceLemmas.{found_here, found_past}
use Rattle.off_runs.proofs.pools.place_behind.Goals as goal

pub returns-else-pool-relay : goal.returns-else-pool-relay
returns-else-pool-relay c =
    found_here (λ (p : PoolHeld). p.pool.relay.0 == c.args.relay.0) c.args.pools.now.items c.seek.place c.index.result.now (omega arith) c.index.ensures
    (ap (λ (q : Pool). q.relay.0 == c.args.relay.0) (sym c.pool.ensures.is) ∙ grind (arith, nat_tests, c.if-pool-relay.false)) c.seek.invariant.0

pub returns-after-seek : goal.returns-after-seek
returns-after-seek c = found_past (λ (p : PoolHeld). p.pool.relay.0 == c.args.relay.0) c.args.pools.now.items c.seek.place (omega arith) c.seek.invariant.0
