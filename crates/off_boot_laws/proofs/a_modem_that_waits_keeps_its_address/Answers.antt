use Rattle.off_boot_laws.proofs.Waiting.{who_waits_keeps}
use Rattle.off_boot_laws.proofs.a_modem_that_waits_keeps_its_address.Goals as goal

pub returns : goal.returns
returns c = who_waits_keeps
