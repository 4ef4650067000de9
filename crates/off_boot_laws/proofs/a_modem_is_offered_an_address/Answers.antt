use Rattle.off_boot_laws.proofs.Messages.{discovers_are_offered}
use Rattle.off_boot_laws.proofs.a_modem_is_offered_an_address.Goals as goal

pub returns : goal.returns
returns c = discovers_are_offered
