use Rattle.off_transfer_laws.proofs.TickLaws.{tick_is_there}
use Rattle.off_transfer_laws.proofs.laws.each_tick_does_something.Goals as goal

pub returns : goal.returns
returns c = tick_is_there
