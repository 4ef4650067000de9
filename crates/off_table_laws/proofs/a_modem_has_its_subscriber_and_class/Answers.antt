use Rattle.off_table_laws.proofs.TableLaws.{modems_stand}
use Rattle.off_table_laws.proofs.a_modem_has_its_subscriber_and_class.Goals as goal

pub returns : goal.returns
returns c = modems_stand
