use Rattle.off_table_laws.proofs.MigrationLemmas.{migrated_are_good}
use Rattle.off_table_laws.proofs.migrated_tables_are_good.Goals as goal

pub returns : goal.returns
returns c = migrated_are_good
