use Rattle.off_table_laws.proofs.MigrationLemmas.{good_stay}
use Rattle.off_table_laws.proofs.good_tables_stay.Goals as goal

pub returns : goal.returns
returns c = good_stay
