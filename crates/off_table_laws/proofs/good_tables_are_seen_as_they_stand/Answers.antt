use Rattle.off_table_laws.proofs.TableLaws.{seen_as_they_stand}
use Rattle.off_table_laws.proofs.good_tables_are_seen_as_they_stand.Goals as goal

pub returns : goal.returns
returns c = seen_as_they_stand
