use Rattle.off_laws.proofs.Acknowledged.{devices_say_none}
use Rattle.off_laws.proofs.leases.a_devices_line_is_no_modems.Goals as goal

pub returns : goal.returns
returns c = devices_say_none
