use Rattle.std.proofs.Common.{◌≡◌, List, length}
use Rattle.off_base.specs.Tree.{Tree, spelling}
use Rattle.off_mic.proofs.Walked.{Passed}
use Rattle.off_mic.proofs.checking.next_value.Given as goal

abbrev pub invariant-settings : goal.invariant-settings
invariant-settings l = (trees : List Tree) → l.fn.walk.rest ≡ spelling trees → Passed l.code trees l.walk.rest

abbrev pub decreases-settings : goal.decreases-settings
decreases-settings l = length l.walk.rest
