-- The entries that give a row of a kind have keys of that kind alone.
use Rattle.std.proofs.Common.{◌≡◌, None, refl}
use Rattle.off_defs.specs.declared.keys.Key.{Key}
use Rattle.off_defs.specs.declared.keys.Key.TheVariants as key
use Rattle.off_defs.specs.declared.tables.Row.{Row}
use Rattle.off_rows.specs.KeyBytes.{kind_of}
use Rattle.off_account_rules.specs.Rows.{modem_of, pool_of, lease_of}
use Rattle.off_account_rules.specs.Good.{raw_pool_of}
use Rattle.off_readers.proofs.WalkLemmas.{OnlyAt}

no_modem : (k : Key) (r : Row) → ¬ (kind_of k ≡ 4) → modem_of (k, r) ≡ None
no_modem (key.Modem mac) r other = absurd (other refl)
no_modem _ r other = refl

no_raw_pool : (k : Key) (r : Row) → ¬ (kind_of k ≡ 6) → raw_pool_of (k, r) ≡ None
no_raw_pool (key.Pool n) r other = absurd (other refl)
no_raw_pool _ r other = refl

no_pool : (k : Key) (r : Row) → ¬ (kind_of k ≡ 6) → pool_of (k, r) ≡ None
no_pool (key.Pool n) r other = absurd (other refl)
no_pool _ r other = refl

no_lease : (k : Key) (r : Row) → ¬ (kind_of k ≡ 7) → lease_of (k, r) ≡ None
no_lease (key.Lease address) r other = absurd (other refl)
no_lease _ r other = refl

pub only_modems : OnlyAt 4 modem_of
only_modems = record { others = λ entry other. no_modem entry.0 entry.1 other }

pub only_raw_pools : OnlyAt 6 raw_pool_of
only_raw_pools = record { others = λ entry other. no_raw_pool entry.0 entry.1 other }

pub only_pools : OnlyAt 6 pool_of
only_pools = record { others = λ entry other. no_pool entry.0 entry.1 other }

pub only_leases : OnlyAt 7 lease_of
only_leases = record { others = λ entry other. no_lease entry.0 entry.1 other }
