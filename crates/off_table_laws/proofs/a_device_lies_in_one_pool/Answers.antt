use Rattle.off_table_laws.proofs.TableLaws.{devices_lie_in_a_pool}
use Rattle.off_table_laws.proofs.a_device_lies_in_one_pool.Goals as goal

pub returns : goal.returns
returns c = devices_lie_in_a_pool
