use Rattle.off_transfer_laws.proofs.StepLaws.{refusals_leave}
use Rattle.off_transfer_laws.proofs.laws.refusals_change_nothing.Goals as goal

pub returns : goal.returns
returns c = refusals_leave
