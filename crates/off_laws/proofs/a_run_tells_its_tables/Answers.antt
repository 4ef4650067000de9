use Rattle.off_laws.proofs.RunLaws.{run_tells}
use Rattle.off_laws.proofs.a_run_tells_its_tables.Goals as goal

pub returns : goal.returns
returns c = run_tells
