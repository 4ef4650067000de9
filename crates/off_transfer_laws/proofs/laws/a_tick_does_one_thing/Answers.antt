use Rattle.off_transfer_laws.proofs.TickLaws.{tick_is_one}
use Rattle.off_transfer_laws.proofs.laws.a_tick_does_one_thing.Goals as goal

pub returns : goal.returns
returns c = tick_is_one
