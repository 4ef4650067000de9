use Rattle.std.proofs.Common.{◌≡◌, ◌≤◌, ◌+◌, ◌-◌, true, length}
use Rattle.std.specs.Prelude.{IsOk, ◌||◌}
use Rattle.off_base.specs.Parts.{values, has, parts_in}
use Rattle.off_base.specs.Walk.{left, all_parts}
use Rattle.off_base.proofs.joined.counted_and_other.Given as goal

abbrev pub invariant-parts : goal.invariant-parts
invariant-parts l =
    (l.at ≤ length l.options) × IsOk (left true l.at l.options) × (l.total ≤ l.at)
    × (l.total + length (values l.counted (all_parts (left true l.at l.options))) ≡ length (values l.counted (all_parts (parts_in true l.options))))
    × ((l.is_there || has l.other (all_parts (left true l.at l.options))) ≡ has l.other (all_parts (parts_in true l.options)))

abbrev pub decreases-parts : goal.decreases-parts
decreases-parts l = length l.options - l.at
