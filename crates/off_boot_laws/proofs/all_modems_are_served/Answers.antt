use Rattle.off_boot_laws.proofs.Keeping.{all_are_served}
use Rattle.off_boot_laws.proofs.all_modems_are_served.Goals as goal

pub returns : goal.returns
returns c = all_are_served
