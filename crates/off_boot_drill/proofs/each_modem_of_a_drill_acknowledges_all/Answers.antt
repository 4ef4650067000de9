use Rattle.off_boot_drill.proofs.Acknowledging.{each_acknowledges_all}
use Rattle.off_boot_drill.proofs.each_modem_of_a_drill_acknowledges_all.Goals as goal

pub returns : goal.returns
returns c = each_acknowledges_all
