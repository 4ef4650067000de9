use Rattle.std.proofs.Common.{◌≡◌, ◌≤◌, take}
use Rattle.off_keepmem.specs.Puts.{puts_in}
use Rattle.off_keepmem.proofs.mem_keeper.count_puts.Given as goal

abbrev pub invariant-loop-write : goal.invariant-loop-write
invariant-loop-write l = (l.puts ≡ puts_in (take l.write-index l.writes)) × (l.puts ≤ l.write-index)
