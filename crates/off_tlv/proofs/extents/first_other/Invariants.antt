use Rattle.std.proofs.Common.{◌≡◌, take, replicate}
use Rattle.off_tlv.proofs.extents.first_other.Given as goal

abbrev pub invariant-loop-place : goal.invariant-loop-place
invariant-loop-place l = take l.place l.bytes ≡ replicate l.place 0
