use Rattle.std.proofs.Common.{length}
use Rattle.off_memdisk.proofs.TearLemmas.{Replays}
use Rattle.off_memdisk.proofs.tearing.image_of.Given as goal

abbrev pub invariant-loop-mark : goal.invariant-loop-mark
invariant-loop-mark l = Replays l.base l.marks l.pieces l.left l.replay

abbrev pub decreases-loop-mark : goal.decreases-loop-mark
decreases-loop-mark l = length l.left
