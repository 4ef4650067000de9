use Rattle.off_laws.proofs.LiveLeases.{commands_drop_ended}
use Rattle.off_laws.proofs.leases.a_command_drops_only_ended_leases.Goals as goal

pub returns : goal.returns
returns c = commands_drop_ended
