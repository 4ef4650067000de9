use Rattle.off_table_laws.proofs.TableLaws.{leases_stand}
use Rattle.off_table_laws.proofs.a_lease_lies_in_one_pool.Goals as goal

pub returns : goal.returns
returns c = leases_stand
