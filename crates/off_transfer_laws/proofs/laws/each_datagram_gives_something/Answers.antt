use Rattle.off_transfer_laws.proofs.StepLaws.{step_is_there}
use Rattle.off_transfer_laws.proofs.laws.each_datagram_gives_something.Goals as goal

pub returns : goal.returns
returns c = step_is_there
