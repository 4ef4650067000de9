use Rattle.std.proofs.Common.{length, ◌-◌, ◌≡◌, ◌≤◌}
use Rattle.off_base.specs.Walk.{left}
use Rattle.off_base.proofs.parts.next_in.Given as goal

abbrev pub invariant-loop-at : goal.invariant-loop-at
invariant-loop-at g l =
    (l.from ≤ l.at) × (l.at ≤ length (g.R.Readable.bytes l.bytes)) × (g.R.Readable.bytes l.bytes ≡ g.R.Readable.bytes l.initial.bytes)
    × (left l.marked l.from (g.R.Readable.bytes l.bytes) ≡ left l.marked l.at (g.R.Readable.bytes l.bytes))

abbrev pub decreases-loop-at : goal.decreases-loop-at
decreases-loop-at g l = length (g.R.Readable.bytes l.bytes) - l.at
