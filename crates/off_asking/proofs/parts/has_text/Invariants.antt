-- The bytes so far are those of the text.
use Rattle.std.proofs.Common.{◌≡◌, take, drop}
use Rattle.off_asking.proofs.parts.has_text.Given as goal

abbrev pub invariant-loop-i : goal.invariant-loop-i
invariant-loop-i l = (l.bytes ≡ l.initial.bytes) × (take l.i (drop l.at l.initial.bytes) ≡ take l.i l.text)
