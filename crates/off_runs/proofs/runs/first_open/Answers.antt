use Rattle.std.proofs.Common.{arith}
use Rattle.off_runs.specs.Runs.{listed}
use Rattle.off_runs.proofs.LeastLemmas.{none_below_first, live_more, first_of_all, none_at_all}
use Rattle.off_runs.proofs.runs.first_open.Goals as goal

pub loop-at-init : goal.loop-at-init
loop-at-init c = none_below_first (listed c.args.pool.now.first.0 c.args.expiries.now) c.args.now.0 c.args.pool.now

pub returns-then-expiries-at : goal.returns-then-expiries-at
returns-then-expiries-at c =
    first_of_all (listed c.args.pool.now.first.0 c.args.expiries.now) c.args.now.0 c.args.pool.now c.loop-at.at c.loop-at.invariant
    (omega (arith, c.loop-at.auto.at)) (omega (arith, c.loop-at-test.true)) c.if-expiries-at.true

pub loop-at-preserved : goal.loop-at-preserved
loop-at-preserved c =
    live_more (listed c.args.pool.now.first.0 c.args.expiries.now) c.args.now.0 c.args.pool.now c.loop-at.at c.loop-at.invariant c.if-expiries-at.false

pub returns : goal.returns
returns c = none_at_all (listed c.args.pool.now.first.0 c.args.expiries.now) c.args.now.0 c.args.pool.now c.loop-at.at c.loop-at.invariant (omega (arith, c.loop-at-test.false))
