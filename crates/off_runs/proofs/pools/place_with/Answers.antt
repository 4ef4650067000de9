use Rattle.std.proofs.Common.{rules, sym, ◌∙◌, arith}
use Rattle.off_runs.specs.Runs.{in_pool}
use Rattle.off_runs.specs.Held.{PoolHeld}
use Rattle.off_runs.proofs.PlaceLemmas.{found_here, found_past}
use Rattle.off_runs.proofs.pools.place_with.Goals as goal

pub returns-else-not-has : goal.returns-else-not-has
returns-else-not-has c =
    found_here (λ (p : PoolHeld). in_pool p.pool c.args.address.0) c.args.pools.now.items c.seek.place c.index.result.now (omega arith) c.index.ensures
    (sym c.has.ensures ∙ search (rules, c.if-not-has.false, c.if-not-has.ensures)) c.seek.invariant.0

pub returns-after-seek : goal.returns-after-seek
returns-after-seek c = found_past (λ (p : PoolHeld). in_pool p.pool c.args.address.0) c.args.pools.now.items c.seek.place (omega arith) c.seek.invariant.0
