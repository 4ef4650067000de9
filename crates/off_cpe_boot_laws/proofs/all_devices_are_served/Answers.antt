use Rattle.off_cpe_boot_laws.proofs.Binding.{all_devices_are_served}
use Rattle.off_cpe_boot_laws.proofs.all_devices_are_served.Goals as goal

pub returns : goal.returns
returns c = all_devices_are_served
