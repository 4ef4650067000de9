use Rattle.off_table_laws.proofs.TableLaws.{pools_are_apart}
use Rattle.off_table_laws.proofs.no_address_lies_in_two_pools.Goals as goal

pub returns : goal.returns
returns c = pools_are_apart
