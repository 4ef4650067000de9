use Rattle.std.proofs.Common.{sym}
use Rattle.off_base.proofs.TreeLemmas.{taken}
use Rattle.off_keepmem.proofs.mem_keeper.copied.Goals as goal

pub loop-i-preserved : goal.loop-i-preserved
loop-i-preserved c = rw (c.in_ok-push.ensures, c.loop-i.invariant, c.in_ok-copy.ensures) (sym (taken _ _ _ c.get-write.ensures))
