-- When an office opens, the site of earlier days becomes its hub 0, in one commit.
use Rattle.std.specs.Prelude.{List, [], ◌∷◌, Option, Some, None}
use Rattle.off_defs.specs.declared.keys.Key.TheVariants as key
use Rattle.off_defs.specs.declared.tables.Row.{Row}
use Rattle.off_defs.specs.declared.writes.Write.{Write}
use Rattle.off_defs.specs.declared.writes.Write.TheVariants.{Put, Drop}
use Rattle.off_defs.specs.State.{Tables}
use Rattle.off_defs.specs.Tables.{row_at, write_all}

-- what is written: nothing where there is no site of earlier days
abbrev pub migration_of : Option Row → List Write
migration_of None = []
migration_of (Some site) = Put (key.Hub 0) site ∷ Drop key.Site ∷ []

abbrev pub migration : Tables → List Write
migration tables = migration_of (row_at tables key.Site)

unfoldable pub migrated : Tables → Tables
migrated tables = write_all tables (migration tables)
