use Rattle.std.proofs.Common.{◌≡◌, List, length}
use Rattle.off_base.specs.Tree.{Tree, spelling}
use Rattle.off_mic.proofs.FeedLemmas.{Marked}
use Rattle.off_mic.proofs.digests.codes_in.Given as goal

abbrev pub invariant-settings : goal.invariant-settings
invariant-settings l = (trees : List Tree) → l.bytes ≡ spelling trees → Marked trees l.walk.rest l.marks

abbrev pub decreases-settings : goal.decreases-settings
decreases-settings l = length l.walk.rest
