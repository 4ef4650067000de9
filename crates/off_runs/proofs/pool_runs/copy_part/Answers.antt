use Rattle.std.proofs.Common.{◌≡◌, ℕ, ◌+◌, cond, ◌&&◌, nat_le, nat_lt, ap, ◌∙◌, arith}
use Rattle.std.proofs.lemmas.Bool.Decides.{nat_tests}
use Rattle.off_runs.specs.Runs.{listed}
use Rattle.off_runs.proofs.pool_runs.copy_part.Goals as goal

part_end : (low high at a : ℕ) → at ≡ high + 1 → (nat_le low a && nat_lt a at) ≡ (nat_le low a && nat_le a high)
part_end low high at a is = grind (arith, nat_tests)

pub returns-clause-part : goal.returns-clause-part
returns-clause-part c = λ a first.
    c.loop-at.invariant.part a first
    ∙ ap (λ b. cond b (listed c.args.from_first c.args.from.now.items a) (listed c.args.first c.args.to.now.items a))
    (part_end c.args.low c.args.high c.loop-at.at a (omega (arith, c.loop-at-test.false, c.loop-at.auto.at-end, c.requires.order)))
