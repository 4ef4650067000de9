use Rattle.off_laws.proofs.RunLaws.{few_are_live}
use Rattle.off_laws.proofs.few_connections_are_live.Goals as goal

pub returns : goal.returns
returns c = few_are_live
