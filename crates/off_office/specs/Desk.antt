-- What an office keeps between two events: what the book says that it holds, and of the tables how
-- many rows of each kind there are, the bodies of files that were built of them, which addresses
-- were seen to agree with transfers, the pools with their hubs and the expiries of their addresses,
-- the pools for devices likewise, what each modem names, and the leases of devices in buckets by
-- their modems.
use Rattle.std.specs.Prelude.{ℕ, List, refl}
use Rattle.std.specs.Coded.{Coded, code_by, coded×, coded_ℕ, coded_list}
use Rattle.off_defs.specs.State.{Held}
use Rattle.off_defs.specs.Codes.{held_code}
use Rattle.off_account_rules.specs.declared.counts.Counts.{Counts}
use Rattle.off_kept.specs.Entries.{Entries, kept_code}
use Rattle.off_tftp.specs.Agreements.{Slots, slots_code}
use Rattle.off_runs.specs.Held.{PoolHeld}
use Rattle.off_runs.specs.Codes.{pool_held_code}
use Rattle.off_users.specs.Kept.{NamedMap}
use Rattle.off_users.specs.Codes.{named_map_code}
use Rattle.off_behind.specs.Buckets.{Leases}
use Rattle.off_behind.specs.Codes.{buckets_code}

pub record Desk : Type 0 where
  pub held : Held
  pub counts : Counts
  pub kept : Entries
  pub agreements : Slots
  pub pools : List PoolHeld
  pub device_pools : List PoolHeld
  pub users : NamedMap
  pub devices : List Leases

abbrev counts_code : Coded Counts
counts_code =
    code_by (((ℕ × ℕ) × (ℕ × ℕ)) × ((ℕ × ℕ) × (ℕ × ℕ)))
    (coded× (coded× (coded× coded_ℕ coded_ℕ) (coded× coded_ℕ coded_ℕ))
    (coded× (coded× coded_ℕ coded_ℕ) (coded× coded_ℕ coded_ℕ)))
    (λ c. (
      ((c.subscribers, c.addons), (c.modems, c.classes)),
      ((c.pools, c.batches), (c.hubs, c.device_pools)),
    ))
    (λ p. record {
      subscribers = p.0.0.0;
      addons = p.0.0.1;
      modems = p.0.1.0;
      classes = p.0.1.1;
      pools = p.1.0.0;
      batches = p.1.0.1;
      hubs = p.1.1.0;
      device_pools = p.1.1.1;
    })
    (λ _. refl)

abbrev pub desk_code : Coded Desk
desk_code =
    code_by ((Held × Counts) × ((Entries × Slots) ×
    ((List PoolHeld × List PoolHeld) × (NamedMap × List Leases))))
    (coded× (coded× held_code counts_code)
    (coded× (coded× kept_code slots_code)
    (coded× (coded× (coded_list pool_held_code) (coded_list pool_held_code))
    (coded× named_map_code buckets_code))))
    (λ k. (
      (k.held, k.counts),
      ((k.kept, k.agreements), ((k.pools, k.device_pools), (k.users, k.devices))),
    ))
    (λ p. record {
      held = p.0.0;
      counts = p.0.1;
      kept = p.1.0.0;
      agreements = p.1.0.1;
      pools = p.1.1.0.0;
      device_pools = p.1.1.0.1;
      users = p.1.1.1.0;
      devices = p.1.1.1.1;
    })
    (λ _. refl)
