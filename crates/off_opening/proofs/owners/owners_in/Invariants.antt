-- The leases of the marks so far are counted, one and another.
use Rattle.std.proofs.Common.{drop}
use Rattle.off_base.specs.declared.macs.Mac.{Mac}
use Rattle.off_opening.proofs.OwnerLemmas.{Counted}
use Rattle.off_opening.proofs.owners.owners_in.Given as goal

abbrev pub invariant-loop-mark : goal.invariant-loop-mark
invariant-loop-mark l = (q : Mac × Mac) → Counted q l.marks (drop l.mark-index l.marks) l.owners
