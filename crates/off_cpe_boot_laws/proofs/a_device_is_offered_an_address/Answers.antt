use Rattle.off_cpe_boot_laws.proofs.Answering.{devices_are_offered}
use Rattle.off_cpe_boot_laws.proofs.a_device_is_offered_an_address.Goals as goal

pub returns : goal.returns
returns c = devices_are_offered
