use Rattle.std.proofs.Common.{◌+◌, ◌-◌, length}
use Rattle.off_jobs.proofs.InputLemmas.{SoFar}
use Rattle.off_jobs.proofs.input.read_input.Given as goal

abbrev pub invariant-loop-source : goal.invariant-loop-source
invariant-loop-source g l = SoFar l.fn.most l.bytes (g.S.Source.seen l.fn.source) (g.S.Source.seen l.source)

abbrev pub decreases-loop-source : goal.decreases-loop-source
decreases-loop-source g l = (l.fn.most + 1) - length l.bytes
