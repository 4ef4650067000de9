use Rattle.off_behind.proofs.FormerLemmas.{before_more}
use Rattle.off_behind.proofs.formers.written_before.Goals as goal

pub loop-before-preserved : goal.loop-before-preserved
loop-before-preserved c = λ t.
    before_more t c.args.writes.now c.loop-before.before c.get.result.now c.args.address c.loop-before.found c.left_by-found.result c.get.ensures c.left_by-found.ensures (c.loop-before.invariant t)
