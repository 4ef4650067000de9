use Rattle.off_cpe_laws.proofs.WriteLemmas.{one_address_stays}
use Rattle.off_cpe_laws.proofs.a_device_keeps_one_address.Goals as goal

pub returns : goal.returns
returns c = one_address_stays
