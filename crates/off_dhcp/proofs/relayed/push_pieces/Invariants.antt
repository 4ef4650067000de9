use Rattle.std.proofs.Common.{◌≡◌, ◌++◌}
use Rattle.off_dhcp.specs.Reply.{relayed}
use Rattle.off_dhcp.proofs.relayed.push_pieces.Given as goal

abbrev pub invariant-loop-k : goal.invariant-loop-k
invariant-loop-k l = (l.bytes ≡ l.initial.bytes) × (l.out ≡ l.initial.out ++ relayed l.initial.bytes l.k)
