use Rattle.off_cpe_boot_laws.proofs.Binding.{devices_that_ask_again_keep}
use Rattle.off_cpe_boot_laws.proofs.a_device_that_asks_again_keeps_its_address.Goals as goal

pub returns : goal.returns
returns c = devices_that_ask_again_keep
