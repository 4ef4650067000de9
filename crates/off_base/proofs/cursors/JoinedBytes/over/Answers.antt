use Rattle.std.proofs.Common.{arith}
use Rattle.off_base.proofs.cursors.JoinedBytes.over.Goals as goal

pub invariant_of-result : goal.invariant_of-result
invariant_of-result c = (
  c.requires.read,
  c.requires.counted,
  record { stands = c.requires.stands; within = λ i near. absurd (omega (arith, near)); bytes = λ i near. absurd (omega (arith, near)) },
  c.requires.stands,
)
