use Rattle.off_cpe_laws.proofs.LimitLemmas.{limit_holds}
use Rattle.off_cpe_laws.proofs.the_limit_holds.Goals as goal

pub returns : goal.returns
returns c = limit_holds
