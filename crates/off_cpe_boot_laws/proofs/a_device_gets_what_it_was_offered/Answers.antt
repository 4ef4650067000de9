use Rattle.off_cpe_boot_laws.proofs.Answering.{devices_are_acknowledged}
use Rattle.off_cpe_boot_laws.proofs.a_device_gets_what_it_was_offered.Goals as goal

pub returns : goal.returns
returns c = devices_are_acknowledged
