use Rattle.std.proofs.Common.{refl, rules}
use Rattle.off_runs.proofs.pool_runs.PoolRuns.new.Goals as goal

pub invariant_of-result : goal.invariant_of-result
invariant_of-result c = record { fits = refl; sized = search rules; roomy = search rules; laid = λ e. cc }
