use Rattle.off_cpe_boot_laws.proofs.Waiting.{device_leases_outlast}
use Rattle.off_cpe_boot_laws.proofs.a_device_that_is_left_alone_keeps_its_lease.Goals as goal

pub returns : goal.returns
returns c = device_leases_outlast
