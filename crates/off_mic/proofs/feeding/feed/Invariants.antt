use Rattle.std.proofs.Common.{◌≡◌, ℕ, List, length}
use Rattle.md5.specs.Md5.{Holds}
use Rattle.off_base.specs.Tree.{Tree, spelling}
use Rattle.off_mic.proofs.Walked.{Fed}
use Rattle.off_mic.proofs.feeding.feed.Given as goal

abbrev pub invariant-settings : goal.invariant-settings
invariant-settings l = (message : List ℕ) (trees : List Tree) → l.bytes ≡ spelling trees → Holds l.fn.hasher message → Fed l.wanted message trees l.walk.rest l.hasher

abbrev pub decreases-settings : goal.decreases-settings
decreases-settings l = length l.walk.rest
