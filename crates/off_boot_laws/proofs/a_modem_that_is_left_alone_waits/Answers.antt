use Rattle.off_boot_laws.proofs.Waiting.{left_alone_waits}
use Rattle.off_boot_laws.proofs.a_modem_that_is_left_alone_waits.Goals as goal

pub returns : goal.returns
returns c = left_alone_waits
