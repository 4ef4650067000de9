use Rattle.off_boot_laws.proofs.Reading.{reads_are_accepted}
use Rattle.off_boot_laws.proofs.a_modem_is_given_its_file.Goals as goal

pub returns : goal.returns
returns c = reads_are_accepted
