use Rattle.off_drill_laws.proofs.AlongLemmas.{drill_says_one_thing}
use Rattle.off_drill_laws.proofs.the_drill_says_one_thing.Goals as goal

pub returns : goal.returns
returns c = drill_says_one_thing
