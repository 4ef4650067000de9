use Rattle.std.proofs.Common.{◌≡◌, ◌-◌, length}
use Rattle.std.specs.List.{slice_range}
use Rattle.off_dhcp.proofs.relayed.piece_of.Given as goal

abbrev pub invariant-loop-i : goal.invariant-loop-i
invariant-loop-i l = (l.value ≡ l.initial.value) × (l.piece.items ≡ slice_range l.value l.from l.i) × (length l.piece.items ≡ l.i - l.from)
