use Rattle.std.proofs.Common.{◌≡◌, ap, cond, ◌∙◌, arith}
use Rattle.std.proofs.lemmas.List.{take_all}
use Rattle.off_runs.specs.Leases.{puts_pool, pool_puts}
use Rattle.off_runs.proofs.LeaseLemmas.{puts_more}
use Rattle.off_runs.proofs.leases.count_puts.Goals as goal
use Rattle.off_runs.proofs.leases.count_puts.Goals.{then-puts_pool, else-puts_pool}

pub loop-place-preserved : goal.loop-place-preserved
loop-place-preserved c =
    let was = c.loop-place.invariant in
    let more = puts_more c.args.writes.now c.loop-place.place c.get.result.now c.get.ensures in
    elim c.if-puts_pool.branch [
      | then-puts_pool w ↦
          let one : puts_pool c.get.result.now ≡ 1 = c.puts_pool.ensures ∙ ap (λ b. cond b 1 0) w.if-puts_pool.true in
          record { puts = omega (arith, more, one, was.puts, w.puts-is); few = omega (arith, was.few, w.puts-is) }
      | else-puts_pool w ↦
          let none : puts_pool c.get.result.now ≡ 0 = c.puts_pool.ensures ∙ ap (λ b. cond b 1 0) w.if-puts_pool.false in
          record { puts = omega (arith, more, none, was.puts, w.puts-is); few = omega (arith, was.few, w.puts-is) }
    ]

pub returns : goal.returns
returns c = c.loop-place.invariant.puts ∙ ap pool_puts (take_all c.loop-place.place c.args.writes.now (omega arith))
