use Rattle.std.proofs.Common.{◌≡◌, length, take}
use Rattle.off_drill_parts.specs.Tallying.{raised_by, data_tally}
use Rattle.off_drill_parts.proofs.tallying.count_data.Given as goal

abbrev pub invariant-loop-i : goal.invariant-loop-i
invariant-loop-i l = (l.sum ≡ raised_by l.fn.tally (data_tally (take l.i l.said.items))) × (l.i-end ≡ length l.said.items)
