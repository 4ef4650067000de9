use Rattle.off_table_laws.proofs.TableLaws.{one_address_a_device}
use Rattle.off_table_laws.proofs.a_device_has_one_address.Goals as goal

pub returns : goal.returns
returns c = one_address_a_device
