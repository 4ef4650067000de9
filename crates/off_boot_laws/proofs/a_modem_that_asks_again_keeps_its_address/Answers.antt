use Rattle.off_boot_laws.proofs.Keeping.{who_asks_again_keeps}
use Rattle.off_boot_laws.proofs.a_modem_that_asks_again_keeps_its_address.Goals as goal

pub returns : goal.returns
returns c = who_asks_again_keeps
