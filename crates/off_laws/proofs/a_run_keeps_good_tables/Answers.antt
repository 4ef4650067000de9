use Rattle.off_laws.proofs.RunLaws.{run_keeps_good}
use Rattle.off_laws.proofs.a_run_keeps_good_tables.Goals as goal

pub returns : goal.returns
returns c = run_keeps_good
