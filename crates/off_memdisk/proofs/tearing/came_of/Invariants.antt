use Rattle.std.proofs.Common.{◌≡◌, vec_len}
use Rattle.off_memdisk.proofs.tearing.came_of.Given as goal

abbrev pub invariant-loop-j : goal.invariant-loop-j
invariant-loop-j l = vec_len l.came ≡ l.j
