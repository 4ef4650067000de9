use Rattle.std.proofs.Common.{rules}
use Rattle.off_opening.proofs.OwnerLemmas.{added_by}
use Rattle.off_opening.proofs.owners.add_owner.Goals as goal

pub returns-in-Ok : goal.returns-in-Ok
returns-in-Ok c = added_by c.args.owner c.args.owners.now c.insert.new.self (search rules)
