use Rattle.off_cpe_laws.proofs.LimitLemmas.{others_dont_grow}
use Rattle.off_cpe_laws.proofs.other_devices_dont_grow.Goals as goal

pub returns : goal.returns
returns c = others_dont_grow
