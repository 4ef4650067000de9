use Rattle.off_cpe_boot_laws.proofs.Waiting.{devices_left_alone_wait}
use Rattle.off_cpe_boot_laws.proofs.a_device_that_is_left_alone_waits.Goals as goal

pub returns : goal.returns
returns c = devices_left_alone_wait
