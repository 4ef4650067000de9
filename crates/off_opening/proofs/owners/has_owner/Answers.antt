use Rattle.off_opening.specs.Owners.{has_owner}
use Rattle.off_opening.proofs.owners.has_owner.Goals as goal

pub returns : goal.returns
unfolding has_owner
returns c = c.contains.ensures
