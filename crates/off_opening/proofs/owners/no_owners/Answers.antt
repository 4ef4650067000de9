use Rattle.off_opening.proofs.OwnerLemmas.{none_in_set}
use Rattle.off_opening.proofs.owners.no_owners.Goals as goal

pub returns-clause-known : goal.returns-clause-known
returns-clause-known c = λ q. none_in_set c.new.result q c.new.ensures.empty

pub returns-clause-several : goal.returns-clause-several
returns-clause-several c = λ q. none_in_set c.new-2.result q c.new-2.ensures.empty
