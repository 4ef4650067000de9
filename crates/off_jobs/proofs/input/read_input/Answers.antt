use Rattle.std.proofs.Common.{arith}
use Rattle.off_jobs.proofs.InputLemmas.{no_input}
use Rattle.off_jobs.proofs.input.read_input.Goals as goal

pub returns-in-Err : goal.returns-in-Err
returns-in-Err g c = no_input c.in-Err.err _ _ _ _ _ c.loop-source.invariant (omega arith) (omega arith) c.in-Err.ensures
