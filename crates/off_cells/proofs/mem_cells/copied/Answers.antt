use Rattle.std.proofs.Common.{sym}
use Rattle.off_base.proofs.TreeLemmas.{taken}
use Rattle.off_cells.proofs.mem_cells.copied.Goals as goal

pub loop-i-preserved : goal.loop-i-preserved
loop-i-preserved c = rw (c.in_ok-push_copy.ensures, c.loop-i.invariant) (sym (taken _ _ _ c.get-write.ensures))
