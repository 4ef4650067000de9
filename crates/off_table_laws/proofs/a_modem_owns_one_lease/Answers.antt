use Rattle.off_table_laws.proofs.TableLaws.{one_lease_a_modem}
use Rattle.off_table_laws.proofs.a_modem_owns_one_lease.Goals as goal

pub returns : goal.returns
returns c = one_lease_a_modem
