use Rattle.off_transfer_laws.proofs.SoundLemmas.{tick_keeps_sound}
use Rattle.off_transfer_laws.proofs.laws.a_tick_keeps_transfers_sound.Goals as goal

pub returns : goal.returns
returns c = tick_keeps_sound
