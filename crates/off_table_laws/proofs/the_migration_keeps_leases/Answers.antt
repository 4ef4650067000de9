use Rattle.off_table_laws.proofs.MigrationLemmas.{migration_keeps_leases}
use Rattle.off_table_laws.proofs.the_migration_keeps_leases.Goals as goal

pub returns : goal.returns
returns c = migration_keeps_leases
