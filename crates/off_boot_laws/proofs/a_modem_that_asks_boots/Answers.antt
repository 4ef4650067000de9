use Rattle.off_boot_laws.proofs.Booting.{boots}
use Rattle.off_boot_laws.proofs.a_modem_that_asks_boots.Goals as goal

pub returns : goal.returns
returns c = boots
