use Rattle.off_transfer_laws.proofs.TickLaws.{tick_changes}
use Rattle.off_transfer_laws.proofs.laws.a_tick_sends_again_or_closes.Goals as goal

pub returns : goal.returns
returns c = tick_changes
