use Rattle.off_transfer_laws.proofs.StepLaws.{step_is_one}
use Rattle.off_transfer_laws.proofs.laws.a_datagram_gives_one_thing.Goals as goal

pub returns : goal.returns
returns c = step_is_one
