use Rattle.off_lease_laws.proofs.LawLemmas.{datagrams_leave_fit}
use Rattle.off_lease_laws.proofs.laws.a_datagram_leaves_what_fits.Goals as goal

pub returns : goal.returns
returns c = datagrams_leave_fit
