use Rattle.off_laws.proofs.RunLaws.{one_end}
use Rattle.off_laws.proofs.a_run_has_one_end.Goals as goal

pub returns : goal.returns
returns c = one_end
