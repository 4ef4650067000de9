use Rattle.off_transfer_laws.proofs.TickLaws.{tick_closes}
use Rattle.off_transfer_laws.proofs.laws.a_tick_closes_as_many_as_it_says.Goals as goal

pub returns : goal.returns
returns c = tick_closes
