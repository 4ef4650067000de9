use Rattle.std.proofs.Common.{◌==◌, arith}
use Rattle.std.proofs.lemmas.Bool.Decides.{nat_tests}
use Rattle.off_runs.specs.Held.{PoolHeld}
use Rattle.off_runs.proofs.PlaceLemmas.{found_here, found_past}
use Rattle.off_runs.proofs.pools.place_numbered.Goals as goal

pub returns-else-number : goal.returns-else-number
returns-else-number c =
    found_here (λ (p : PoolHeld). p.number == c.args.number) c.args.pools.now.items c.seek.place c.index.result.now (omega arith) c.index.ensures
    (grind (arith, nat_tests, c.number.ensures, c.if-number.false)) c.seek.invariant.0

pub returns-after-seek : goal.returns-after-seek
returns-after-seek c = found_past (λ (p : PoolHeld). p.number == c.args.number) c.args.pools.now.items c.seek.place (omega arith) c.seek.invariant.0
