use Rattle.off_drill_laws.proofs.LawLemmas.{drill_law}
use Rattle.off_drill_laws.proofs.the_drill_leaves_its_tables.Goals as goal

pub returns : goal.returns
returns c = drill_law
