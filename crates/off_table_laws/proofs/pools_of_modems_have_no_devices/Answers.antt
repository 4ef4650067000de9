use Rattle.off_table_laws.proofs.TableLaws.{pools_have_no_devices}
use Rattle.off_table_laws.proofs.pools_of_modems_have_no_devices.Goals as goal

pub returns : goal.returns
returns c = pools_have_no_devices
