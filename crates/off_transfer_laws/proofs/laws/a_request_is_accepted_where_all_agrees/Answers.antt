use Rattle.off_transfer_laws.proofs.StepLaws.{accepted_agree}
use Rattle.off_transfer_laws.proofs.laws.a_request_is_accepted_where_all_agrees.Goals as goal

pub returns : goal.returns
returns c = accepted_agree
