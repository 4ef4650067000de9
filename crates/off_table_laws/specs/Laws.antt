-- Laws of good tables.
use Rattle.std.specs.Prelude.{◌≡◌, ℕ, IsTrue, List, Option, Some, IsSome, None, option_and_then, ◌↔◌}
use Rattle.off_base.specs.declared.addresses.Ip4.{Ip4}
use Rattle.off_base.specs.declared.macs.Mac.{Mac}
use Rattle.off_base.specs.Tree.{Tree}
use Rattle.off_defs.specs.declared.keys.Key.{Key}
use Rattle.off_defs.specs.declared.tables.Modem.{Modem}
use Rattle.off_defs.specs.declared.tables.Pool.{Pool}
use Rattle.off_defs.specs.declared.tables.Lease.{Lease}
use Rattle.off_defs.specs.declared.tables.DeviceLease.{DeviceLease}
use Rattle.off_defs.specs.State.{Tables}
use Rattle.off_defs.specs.Tables.{row_at}
use Rattle.off_account_rules.specs.Rows.{has_address, seen_at, hub_of, site_of, pool_hub_in, subscriber_in, add_on_in, modem_in, class_in, pool_in, lease_in, held_in, pools, device_pool_in, device_in, device_pools, devices}
use Rattle.off_account_rules.specs.Good.{owner_of, device_owner, raw_pools, raw_device_pools, Opens, Good, IsLeastBad, Judged}
use Rattle.off_account_rules.specs.Migration.{migrated}

-- the modem that owns the lease of an address
abbrev pub owner_in : Tables → Ip4 → Option Mac
owner_in tables address = option_and_then (λ lease. owner_of lease.hold) (lease_in tables address)

-- a modem owns the lease of one address at most
abbrev pub OneLeaseAModem : Type 0
OneLeaseAModem =
    (tables : Tables) → Good tables → (mac : Mac) (one other : Ip4) →
    owner_in tables one ≡ Some mac → owner_in tables other ≡ Some mac
    → one ≡ other

-- a modem owns the lease of the address that it holds, and holds the address whose lease it owns
abbrev pub OwnersHold : Type 0
OwnersHold =
    (tables : Tables) → Good tables → (mac : Mac) (address : Ip4) →
    (owner_in tables address ≡ Some mac) ↔ (held_in tables mac ≡ Some address)

-- no address lies in two pools
abbrev pub PoolsAreApart : Type 0
PoolsAreApart =
    (tables : Tables) → Good tables → (address : Ip4) (n m : ℕ) (pool other : Pool) →
    pool_in tables n ≡ Some pool → pool_in tables m ≡ Some other
    → IsTrue (has_address pool address) → IsTrue (has_address other address) → n ≡ m

-- a modem's subscriber and class are there, and an add-on's subscriber
abbrev pub ModemsStand : Type 0
ModemsStand =
    (tables : Tables) → Good tables → (mac : Mac) (modem : Modem) → modem_in tables mac ≡ Some modem
    → IsSome (subscriber_in tables modem.subscriber) × IsSome (class_in tables modem.class)

abbrev pub AddOnsStand : Type 0
AddOnsStand =
    (tables : Tables) → Good tables → (n number : ℕ) (settings : List Tree) →
    add_on_in tables n number ≡ Some settings
    → IsSome (subscriber_in tables n)

-- a pool has the address, and no other has
pub record LiesInOnePool (tables : Tables) (address : Ip4) : Type 0 where
  pub number : ℕ
  pub pool : Pool
  pub there : pool_in tables number ≡ Some pool
  pub within : IsTrue (has_address pool address)
  pub only : (m : ℕ) (other : Pool) → pool_in tables m ≡ Some other →
      IsTrue (has_address other address) → m ≡ number

-- an address of a pool has the pool's hub
abbrev pub HubOfPool : Type 0
HubOfPool =
    (tables : Tables) → Good tables → (address : Ip4) (n : ℕ) (pool : Pool) →
    pool_in tables n ≡ Some pool → IsTrue (has_address pool address)
    → hub_of tables address ≡ Some (pool_hub_in tables n)

-- a lease has its hub's site, and its address lies in one pool
abbrev pub LeasesStand : Type 0
LeasesStand =
    (tables : Tables) → Good tables → (address : Ip4) (lease : Lease) →
    lease_in tables address ≡ Some lease
    → IsSome (site_of tables address) × LiesInOnePool tables address

-- the modem and its device that have an address
abbrev pub device_owner_in : Tables → Ip4 → Option (Mac × Mac)
device_owner_in tables address =
    option_and_then (λ lease. device_owner lease.hold) (device_in tables address)

-- a device has one address at most behind a modem
abbrev pub OneAddress : Tables → Type 0
OneAddress tables =
    (one other : Ip4) (owner : Mac × Mac) → device_owner_in tables one ≡ Some owner →
    device_owner_in tables other ≡ Some owner
    → one ≡ other

abbrev pub OneAddressADevice : Type 0
OneAddressADevice = (tables : Tables) → Good tables → OneAddress tables

-- a pool for devices has the address, and no other
pub record LiesInOneDevicePool (tables : Tables) (address : Ip4) : Type 0 where
  pub number : ℕ
  pub pool : Pool
  pub there : device_pool_in tables number ≡ Some pool
  pub within : IsTrue (has_address pool address)
  pub only : (m : ℕ) (other : Pool) → device_pool_in tables m ≡ Some other →
      IsTrue (has_address other address) → m ≡ number

abbrev pub DevicesLieInAPool : Type 0
DevicesLieInAPool =
    (tables : Tables) → Good tables → (address : Ip4) (lease : DeviceLease) →
    device_in tables address ≡ Some lease
    → LiesInOneDevicePool tables address

-- no address of a pool of modems is a device's
abbrev pub PoolsHaveNoDevices : Type 0
PoolsHaveNoDevices =
    (tables : Tables) → Good tables → (address : Ip4) (n : ℕ) (pool : Pool) →
    pool_in tables n ≡ Some pool → IsTrue (has_address pool address)
    → device_in tables address ≡ None

-- tables that open are good as soon as the site of earlier days is the hub 0; good ones stay
abbrev pub MigratedAreGood : Type 0
MigratedAreGood = (tables : Tables) → Opens tables → Good (migrated tables)

abbrev pub GoodStay : Type 0
GoodStay = (tables : Tables) → Good tables → migrated tables ≡ tables

-- pools, their hubs' numbers, leases and who holds them are the same in both, and so are the pools
-- for devices and the leases of devices
pub record KeepsLeases (old new : Tables) : Type 0 where
  pub pools : pools new ≡ pools old
  pub hubs : (n : ℕ) → pool_hub_in new n ≡ pool_hub_in old n
  pub leases : (address : Ip4) → lease_in new address ≡ lease_in old address
  pub holders : (mac : Mac) → held_in new mac ≡ held_in old mac
  pub device_pools : device_pools new ≡ device_pools old
  pub devices : devices new ≡ devices old

abbrev pub MigrationKeepsLeases : Type 0
MigrationKeepsLeases = (tables : Tables) → KeepsLeases tables (migrated tables)

-- tables that open have no bad key
abbrev pub OpeningHaveNoBadKey : Type 0
OpeningHaveNoBadKey = (tables : Tables) (bad : Key) → Opens tables → IsLeastBad tables bad → ⊥

-- a test of tables has one answer
abbrev pub OneJudgement : Type 0
OneJudgement =
    (tables : Tables) (one other : Option Key) → Judged tables one → Judged tables other →
    one ≡ other

-- in good tables what is read stands there, and what stands there is read
abbrev pub SeenAsTheyStand : Type 0
SeenAsTheyStand =
    (tables : Tables) → Good tables →
    ((key : Key) → seen_at tables key ≡ row_at tables key) × (pools tables ≡ raw_pools tables)
    × (device_pools tables ≡ raw_device_pools tables)
