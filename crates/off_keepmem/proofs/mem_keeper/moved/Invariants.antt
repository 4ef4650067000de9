use Rattle.std.proofs.Common.{◌≡◌, ◌++◌}
use Rattle.off_keepmem.proofs.mem_keeper.moved.Given as goal

abbrev pub invariant-loop-write : goal.invariant-loop-write
invariant-loop-write l = l.planned.items ++ l.write-iterator.rest.items ≡ l.fn.writes.items
