use Rattle.off_cpe_boot_laws.proofs.Waiting.{waiting_devices_keep}
use Rattle.off_cpe_boot_laws.proofs.a_device_that_waits_keeps_its_address.Goals as goal

pub returns : goal.returns
returns c = waiting_devices_keep
