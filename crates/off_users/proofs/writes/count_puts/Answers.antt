use Rattle.std.proofs.Common.{◌≡◌, ap, cond, ◌∙◌, arith}
use Rattle.std.proofs.lemmas.List.{take_all}
use Rattle.off_users.specs.Writes.{puts_modem, modem_puts}
use Rattle.off_users.proofs.WriteLemmas.{puts_more}
use Rattle.off_users.proofs.writes.count_puts.Goals as goal
use Rattle.off_users.proofs.writes.count_puts.Goals.{then-puts_modem, else-puts_modem}

pub loop-place-preserved : goal.loop-place-preserved
loop-place-preserved c =
    let was = c.loop-place.invariant in
    let more = puts_more c.args.writes.now c.loop-place.place c.get.result.now c.get.ensures in
    elim c.if-puts_modem.branch [
      | then-puts_modem w ↦
          let one : puts_modem c.get.result.now ≡ 1 = c.puts_modem.ensures ∙ ap (λ b. cond b 1 0) w.if-puts_modem.true in
          record { puts = omega (arith, more, one, was.puts, w.puts-is); few = omega (arith, was.few, w.puts-is) }
      | else-puts_modem w ↦
          let none : puts_modem c.get.result.now ≡ 0 = c.puts_modem.ensures ∙ ap (λ b. cond b 1 0) w.if-puts_modem.false in
          record { puts = omega (arith, more, none, was.puts, w.puts-is); few = omega (arith, was.few, w.puts-is) }
    ]

pub returns : goal.returns
returns c = c.loop-place.invariant.puts ∙ ap modem_puts (take_all c.loop-place.place c.args.writes.now (omega arith))
