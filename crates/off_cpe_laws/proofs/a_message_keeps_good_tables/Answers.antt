use Rattle.off_cpe_laws.proofs.GoodLemmas.{step_keeps_good}
use Rattle.off_cpe_laws.proofs.a_message_keeps_good_tables.Goals as goal

pub returns : goal.returns
returns c = step_keeps_good
