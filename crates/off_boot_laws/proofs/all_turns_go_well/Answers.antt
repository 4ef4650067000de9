use Rattle.off_boot_laws.proofs.Went.{all_go_well}
use Rattle.off_boot_laws.proofs.all_turns_go_well.Goals as goal

pub returns : goal.returns
returns c = all_go_well
