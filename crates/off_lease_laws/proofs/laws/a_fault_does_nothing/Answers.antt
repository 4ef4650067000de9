use Rattle.off_lease_laws.proofs.LawLemmas.{faults_do_nothing}
use Rattle.off_lease_laws.proofs.laws.a_fault_does_nothing.Goals as goal

pub returns : goal.returns
returns c = faults_do_nothing
