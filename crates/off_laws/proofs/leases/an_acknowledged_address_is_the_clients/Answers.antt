use Rattle.off_laws.proofs.Acknowledged.{acknowledged_is_given}
use Rattle.off_laws.proofs.leases.an_acknowledged_address_is_the_clients.Goals as goal

pub returns : goal.returns
returns c = acknowledged_is_given
