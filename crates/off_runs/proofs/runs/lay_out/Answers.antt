use Rattle.std.proofs.Common.{◌+◌, ◌≤◌, refl, arith}
use Rattle.std.proofs.lemmas.Bool.Decides.{nat_tests}
use Rattle.off_runs.specs.Runs.{listed}
use Rattle.off_runs.proofs.RunLemmas.{begun_ended, begun_kept, begun_all, soonest_more}
use Rattle.off_runs.proofs.runs.lay_out.Goals as goal
use Rattle.off_runs.proofs.runs.lay_out.Goals.{then-expiry-now, else-expiry-now}

pub loop-at-preserved : goal.loop-at-preserved
loop-at-preserved c =
    let was = c.loop-at.invariant in
    let at = c.loop-at.at in
    let pool = c.args.pool.now in
    elim c.if-expiry-now.branch [
      | then-expiry-now w ↦ record {
        begun = begun_ended (listed pool.first.0 c.args.expiries.now) c.args.now.0 pool c.loop-at.runs.items _ c.loop-at.start _ at was.begun w.if-expiry-now.true (rw w.runs-is w.end_run.ensures.items) w.start-is;
        soonest = soonest_more (listed pool.first.0 c.args.expiries.now) c.args.now.0 pool c.loop-at.soonest _ at was.soonest (omega (arith, w.soonest-is)) (λ k. omega (arith, w.soonest-is));
        capacity = rw w.runs-is (omega (arith, was.capacity, w.end_run.ensures.capacity));
      }
      | else-expiry-now w ↦ record {
        begun = begun_kept (listed pool.first.0 c.args.expiries.now) c.args.now.0 pool c.loop-at.runs.items _ c.loop-at.start _ at was.begun w.if-expiry-now.false (omega (arith, c.loop-at.auto.at)) (omega (arith, c.loop-at-test.true)) (rw w.runs-is refl) w.start-is;
        soonest = soonest_more (listed pool.first.0 c.args.expiries.now) c.args.now.0 pool c.loop-at.soonest _ at was.soonest (omega (arith, w.soonest-is)) (λ k. absurd (omega (arith, k, w.if-expiry-now.false)));
        capacity = rw w.runs-is was.capacity;
      }
    ]

pub returns-clause-runs : goal.returns-clause-runs
returns-clause-runs c =
    let size : c.args.pool.now.first.0 ≤ c.args.pool.now.last.0 = grind (arith, nat_tests, c.requires.size) in
    rw c.end_run-2.ensures.items
    (begun_all (listed c.args.pool.now.first.0 c.args.expiries.now) c.args.now.0 c.args.pool.now c.loop-at.runs.items c.loop-at.start c.loop-at.at (c.args.pool.now.last.0 + 1)
    (omega (arith, size, c.loop-at.auto.at-end, c.loop-at-test.false)) refl c.loop-at.invariant.begun)

pub returns-clause-soonest : goal.returns-clause-soonest
returns-clause-soonest c = λ a inside ahead. c.loop-at.invariant.soonest a inside (let high : a ≤ c.args.pool.now.last.0 = grind (arith, nat_tests) in omega (arith, c.loop-at-test.false)) ahead
