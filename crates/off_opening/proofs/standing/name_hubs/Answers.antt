use Rattle.off_opening.proofs.StandingLemmas.{names_marked}
use Rattle.off_opening.proofs.standing.name_hubs.Goals as goal

pub returns : goal.returns
returns c = λ t are. names_marked c.args.marks.now c.any_of_hubs.result c.any_of_hubs.ensures t are
