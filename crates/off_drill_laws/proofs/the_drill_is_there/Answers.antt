use Rattle.off_drill_laws.proofs.LawLemmas.{drill_is_there}
use Rattle.off_drill_laws.proofs.the_drill_is_there.Goals as goal

pub returns : goal.returns
returns c = drill_is_there
