use Rattle.off_order_laws.proofs.StepLaws.{step_keeps_good}
use Rattle.off_order_laws.proofs.a_step_keeps_good_tables.Goals as goal

pub returns : goal.returns
returns c = step_keeps_good
