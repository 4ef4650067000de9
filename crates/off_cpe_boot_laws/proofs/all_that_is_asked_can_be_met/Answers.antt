use Rattle.off_cpe_boot_laws.proofs.Example.{all_can_be_met}
use Rattle.off_cpe_boot_laws.proofs.all_that_is_asked_can_be_met.Goals as goal

pub returns : goal.returns
returns c = all_can_be_met
