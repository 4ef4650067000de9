use Rattle.off_cpe_boot_laws.proofs.Limits.{waiting_devices_keep_their_place}
use Rattle.off_cpe_boot_laws.proofs.a_device_that_waits_keeps_its_place.Goals as goal

pub returns : goal.returns
returns c = waiting_devices_keep_their_place
