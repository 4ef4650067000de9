use Rattle.off_boot_laws.proofs.Messages.{requests_are_acknowledged}
use Rattle.off_boot_laws.proofs.a_modem_gets_what_it_was_offered.Goals as goal

pub returns : goal.returns
returns c = requests_are_acknowledged
