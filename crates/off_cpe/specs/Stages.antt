-- A device's message is judged first by itself, and then by the rows of its modem; and what is
-- known of the tables without a look at them.
use Rattle.std.specs.Prelude.{◌≡◌, ℕ, Bool, not, ◌==◌, ◌&&◌, List, [], ◌∷◌, Option, Some, None, is_none, option_map, option_and_then, IfSome, IsTrue, if◌then◌else◌}
use Rattle.std.specs.List.{find}
use Rattle.off_base.specs.declared.addresses.Ip4.{Ip4}
use Rattle.off_base.specs.declared.macs.Mac.{Mac}
use Rattle.off_defs.specs.declared.tables.DeviceLease.{DeviceLease}
use Rattle.off_defs.specs.declared.tables.Pool.{Pool}
use Rattle.off_defs.specs.State.{Tables}
use Rattle.off_dhcp.specs.Datagram.{Received}
use Rattle.off_account_rules.specs.Rows.{pool_fits, modem_in, devices, device_pools}
use Rattle.off_account_rules.specs.Good.{is_address}
use Rattle.off_asking.specs.Asking.{asks}
use Rattle.off_asking.specs.Claims.{is_served, has_no_form}
use Rattle.off_behind.specs.Buckets.{Bucket, Indexes}
use Rattle.off_runs.specs.Held.{PoolHeld, RunsHeld, KeepsPools, StandsFor}
use Rattle.off_runs.specs.Leases.{ground}
use Rattle.off_device_runs.specs.Ground.{device_ground}
use Rattle.off_cpe_rules.specs.Rules.{has_service, is_full, is_for_another}
use Rattle.off_cpe_rules.specs.declared.cases.DeviceCase.{DeviceCase}
use Rattle.off_cpe_rules.specs.declared.words.DeviceWord.{DeviceWord}
use Rattle.off_cpe_rules.specs.declared.words.DeviceWord.TheVariants as word
use Rattle.off_cpe.specs.declared.modems.FoundModem.{FoundModem}

-- the rules that need no row, and those that need the rows of the modem
abbrev pub own_rules : Received → List (DeviceWord × Bool)
own_rules m = (word.NotServed, not (is_served m)) ∷ (word.Form, has_no_form m) ∷ []

abbrev pub row_rules : Received → DeviceCase → List (DeviceWord × Bool)
row_rules m c =
    (word.NoPool, asks m && is_none c.pool)
    ∷ (word.Suspended, asks m && not (has_service c))
    ∷ (word.Offline, not c.is_online)
    ∷ (word.OtherServer, is_for_another m c)
    ∷ (word.Limit, asks m && is_full c)
    ∷ []

-- what is known is right by the tables: the leases of devices, the pools for devices and those of
-- modems, the pools at a moment
pub record IsKnown (index : List Bucket) (pools modems : RunsHeld) (now : ℕ) (t : Tables) :
    Type 0 where
  pub leases : Indexes index (devices t)
  pub free : StandsFor pools (device_ground t) now
  pub hubs : StandsFor modems (ground t) now

-- what is kept is kept for the tables, and the pool is the one behind the relay
pub record IsBehind (kept : List PoolHeld) (relay : Ip4) (pool : Pool) (t : Tables) : Type 0 where
  pub keeps : KeepsPools kept (device_ground t)
  pub found : option_map (λ e. e.1) (find (λ e. e.1.relay.0 == relay.0) (device_pools t))
      ≡ Some pool

-- the pool has its values in their ranges
abbrev pub HasGoodPool : DeviceCase → Type 0
HasGoodPool c = IfSome c.pool (λ pool. IsTrue (pool_fits pool))

-- a modem's subscriber is that of its row, where the row was read; and the modem is found
abbrev pub IsRead : FoundModem → Tables → Type 0
IsRead found t =
    IfSome found.subscriber
    (λ number. option_map (λ row. row.subscriber) (modem_in t found.mac) ≡ Some number)

pub record IsFound (found : Option FoundModem) (t : Tables) (modem : Option Mac) : Type 0 where
  pub is : option_map (λ f. f.mac) found ≡ modem
  pub read : IfSome found (λ f. IsRead f t)

-- the device's own lease, where its address is the one that is chosen
abbrev pub lease_at : Ip4 × DeviceLease → Ip4 → Option DeviceLease
lease_at own address = if is_address address own.0 then Some own.1 else None

abbrev pub own_lease : Option (Ip4 × DeviceLease) → Option Ip4 → Option DeviceLease
own_lease own chosen = option_and_then (λ lease. option_and_then (lease_at lease) chosen) own
