use Rattle.std.proofs.Common.{◌≡◌, List, length}
use Rattle.off_base.specs.Tree.{Tree, spelling}
use Rattle.off_mic.specs.declared.feeding.Wanted.TheVariants.{ButMics}
use Rattle.off_mic.proofs.Walked.{Copied}
use Rattle.off_mic.proofs.sealing.push_without_mics.Given as goal

abbrev pub invariant-settings : goal.invariant-settings
invariant-settings l = (trees : List Tree) → l.settings ≡ spelling trees → Copied ButMics trees l.walk.rest l.fn.out l.out

abbrev pub decreases-settings : goal.decreases-settings
decreases-settings l = length l.walk.rest
