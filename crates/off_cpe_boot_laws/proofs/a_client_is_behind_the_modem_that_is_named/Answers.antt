use Rattle.off_cpe_boot_laws.proofs.Behind.{who_is_behind}
use Rattle.off_cpe_boot_laws.proofs.a_client_is_behind_the_modem_that_is_named.Goals as goal

pub returns : goal.returns
returns c = who_is_behind
