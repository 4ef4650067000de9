use Rattle.std.proofs.Common.{◌≡◌, ◌≤◌, ◌-◌, true, length}
use Rattle.std.specs.Prelude.{IsOk}
use Rattle.std.specs.Result.{result_err}
use Rattle.off_base.specs.Parts.{parts_in}
use Rattle.off_base.specs.Walk.{left}
use Rattle.off_base.proofs.ExtentLemmas.{AllReached, FewBytes}
use Rattle.off_base.proofs.index.extents_in.Given as goal

abbrev pub invariant-parts : goal.invariant-parts
invariant-parts l =
    (l.at ≤ length l.options) × (result_err (left true l.at l.options) ≡ result_err (parts_in true l.options))
    × (length l.extents ≡ 9) × FewBytes l.at l.extents
    × (IsOk (parts_in true l.options) → AllReached l.options l.at l.extents)

abbrev pub decreases-parts : goal.decreases-parts
decreases-parts l = length l.options - l.at
