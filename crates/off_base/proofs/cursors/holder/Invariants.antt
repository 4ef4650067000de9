use Rattle.std.proofs.Common.{◌≤◌, ◌-◌, length}
use Rattle.off_base.specs.Walk.{CursorStands, cursor_at}
use Rattle.off_base.proofs.cursors.holder.Given as goal

abbrev pub invariant-options : goal.invariant-options
invariant-options l = CursorStands l.options l.wanted (cursor_at l.at l.before) × (l.before ≤ l.i)

abbrev pub decreases-options : goal.decreases-options
decreases-options l = length l.options - l.at
