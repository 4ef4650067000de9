use Rattle.std.proofs.Common.{arith}
use Rattle.off_runs.specs.Runs.{is_open}
use Rattle.off_runs.proofs.TakenLemmas.{now_shut}
use Rattle.off_runs.proofs.runs.follow.Goals as goal

pub returns-else-before-laid_at-clause-done : goal.returns-else-before-laid_at-clause-done
returns-else-before-laid_at-clause-done c = λ pool held was are done.
    now_shut pool held c.args.address.0 c.args.before c.args.expiry c.args.laid_at.0 was c.take_out.new.runs.items
    (c.take_out.ensures.done pool (is_open held c.args.laid_at.0 pool) are done) (omega (arith, c.if-expiry-laid_at.false))
