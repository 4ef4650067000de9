use Rattle.off_table_laws.proofs.TableLaws.{hub_of_pool}
use Rattle.off_table_laws.proofs.an_address_has_its_pools_hub.Goals as goal

pub returns : goal.returns
returns c = hub_of_pool
