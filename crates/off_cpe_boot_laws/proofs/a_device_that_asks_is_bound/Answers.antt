use Rattle.off_cpe_boot_laws.proofs.Binding.{devices_that_ask_are_bound}
use Rattle.off_cpe_boot_laws.proofs.a_device_that_asks_is_bound.Goals as goal

pub returns : goal.returns
returns c = devices_that_ask_are_bound
