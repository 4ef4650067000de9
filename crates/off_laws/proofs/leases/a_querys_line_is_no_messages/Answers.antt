use Rattle.off_laws.proofs.Acknowledged.{queries_say_none}
use Rattle.off_laws.proofs.leases.a_querys_line_is_no_messages.Goals as goal

pub returns : goal.returns
returns c = queries_say_none
