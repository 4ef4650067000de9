-- The walk for a pool that is wanted.
use Rattle.std.specs.Prelude.{ℕ, Option, option_map}
use Rattle.off_defs.specs.declared.keys.Key.{Key}
use Rattle.off_defs.specs.declared.tables.Row.{Row}
use Rattle.off_account_rules.specs.Rows.{pool_of}
use Rattle.off_asking.specs.Choice.{provided}
use Rattle.off_query_rules.specs.Hubs.{wants}
use Rattle.off_query_rules.specs.declared.wanted.Wanted.{Wanted}

-- the number of an entry's pool, where that is wanted
abbrev pub wanting : Wanted → Key × Row → Option ℕ
wanting wanted entry =
    option_map (λ pool. pool.0) (provided (λ pool. wants wanted pool.1) (pool_of entry))
