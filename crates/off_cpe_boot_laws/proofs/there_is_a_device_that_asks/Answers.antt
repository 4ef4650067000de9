use Rattle.off_cpe_boot_laws.proofs.Example.{some_ask}
use Rattle.off_cpe_boot_laws.proofs.there_is_a_device_that_asks.Goals as goal

pub returns : goal.returns
returns c = some_ask
