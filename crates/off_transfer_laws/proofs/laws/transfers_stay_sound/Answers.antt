use Rattle.off_transfer_laws.proofs.SoundLemmas.{step_keeps_sound}
use Rattle.off_transfer_laws.proofs.laws.transfers_stay_sound.Goals as goal

pub returns : goal.returns
returns c = step_keeps_sound
