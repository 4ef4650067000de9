use Rattle.off_laws.proofs.Connections.{answered_once}
use Rattle.off_laws.proofs.a_request_is_answered_once.Goals as goal

pub returns : goal.returns
returns c = answered_once
