use Rattle.off_boot_drill.proofs.Meeting.{each_meets_all}
use Rattle.off_boot_drill.proofs.each_modem_of_a_drill_meets_all.Goals as goal

pub returns : goal.returns
returns c = each_meets_all
