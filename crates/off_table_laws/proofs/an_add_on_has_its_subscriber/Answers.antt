use Rattle.off_table_laws.proofs.TableLaws.{add_ons_stand}
use Rattle.off_table_laws.proofs.an_add_on_has_its_subscriber.Goals as goal

pub returns : goal.returns
returns c = add_ons_stand
