use Rattle.off_lease_laws.proofs.FreeLemmas.{free_stands_free}
use Rattle.off_lease_laws.proofs.laws.free_addresses_stand_free.Goals as goal

pub returns : goal.returns
returns c = free_stands_free
