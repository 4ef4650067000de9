use Rattle.off_laws.proofs.LiveLeases.{commands_keep_live}
use Rattle.off_laws.proofs.leases.a_command_keeps_live_leases.Goals as goal

pub returns : goal.returns
returns c = commands_keep_live
