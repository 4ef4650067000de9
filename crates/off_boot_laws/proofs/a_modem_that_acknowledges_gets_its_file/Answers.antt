use Rattle.off_boot_laws.proofs.Booting.{who_asks_gets_its_file}
use Rattle.off_boot_laws.proofs.a_modem_that_acknowledges_gets_its_file.Goals as goal

pub returns : goal.returns
returns c = who_asks_gets_its_file
