use Rattle.off_transfer_laws.proofs.TickLaws.{tick_sends}
use Rattle.off_transfer_laws.proofs.laws.a_tick_sends_as_many_as_it_says.Goals as goal

pub returns : goal.returns
returns c = tick_sends
