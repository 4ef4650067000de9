-- Tables that open, said of the rows alone: no list of entries, no count. `Judging` has that both say the same.
use Rattle.std.proofs.Common.{◌≡◌, ℕ, Bool, true, false, ◌&&◌, ◌||◌, eqb, Option, Some, None, is_some, option_and_then}
use Rattle.off_base.specs.declared.addresses.Ip4.{Ip4}
use Rattle.off_base.specs.declared.macs.Mac.{Mac}
use Rattle.off_defs.specs.declared.keys.Key.{Key}
use Rattle.off_defs.specs.declared.keys.Key.TheVariants as key
use Rattle.off_defs.specs.declared.tables.Row.{Row}
use Rattle.off_defs.specs.declared.tables.Row.TheVariants as row
use Rattle.off_defs.specs.declared.tables.Modem.{Modem}
use Rattle.off_defs.specs.declared.tables.Pool.{Pool}
use Rattle.off_defs.specs.declared.tables.Lease.{Lease}
use Rattle.off_defs.specs.declared.tables.DeviceLease.{DeviceLease}
use Rattle.off_account_rules.specs.Rows.{is_possible, has_address, overlaps, as_pool_hub, number_or_0}
use Rattle.off_account_rules.specs.Good.{is_apart, owner_of, device_owner}
use Rattle.off_table_laws.proofs.Rows.{Rows}

abbrev pub Has : Rows → Key → Type 0
Has rows q = is_some (rows q) ≡ true

abbrev pub Possible : Rows → Type 0
Possible rows = (q : Key) (held : Row) → rows q ≡ Some held → is_possible q held ≡ true

-- one pool of these keys has the address, and no other
abbrev pub OnePoolOf : (ℕ → Key) → Rows → Ip4 → Type 0
OnePoolOf place rows address =
    record {
      number : ℕ;
      pool : Pool;
      there : rows (place number) ≡ Some (row.Pool pool);
      within : has_address pool address ≡ true;
      only : (m : ℕ) (other : Pool) → rows (place m) ≡ Some (row.Pool other) → has_address other address ≡ true → m ≡ number;
    }

abbrev pub OnePool : Rows → Ip4 → Type 0
OnePool rows address = OnePoolOf key.Pool rows address

-- the address has a lease, and the modem owns it
abbrev pub OwnedBy : Rows → Mac → Ip4 → Type 0
OwnedBy rows mac address =
    record {
      lease : Lease;
      there : rows (key.Lease address) ≡ Some (row.Lease lease);
      owner : owner_of lease.hold ≡ Some mac;
    }

-- a hub is there, or the site that counts as the hub 0; and the number of a pool's hub
abbrev pub hub_there : Rows → ℕ → Bool
hub_there rows n = is_some (rows (key.Hub n)) || (eqb n 0 && is_some (rows key.Site))

abbrev pub HubThere : Rows → ℕ → Type 0
HubThere rows n = hub_there rows n ≡ true

abbrev pub hub_in_row : Option Row → ℕ
hub_in_row o = number_or_0 (option_and_then as_pool_hub o)

abbrev pub hub_at : Rows → ℕ → ℕ
hub_at rows n = hub_in_row (rows (key.PoolHub n))

-- no two addresses have one owner
abbrev pub OwnedOnce : Rows → Type 0
OwnedOnce rows =
    (one other : Ip4) (lease left : DeviceLease) (owner : Mac × Mac) → rows (key.Device one) ≡ Some (row.Device lease) → rows (key.Device other) ≡ Some (row.Device left)
    → device_owner lease.hold ≡ Some owner → device_owner left.hold ≡ Some owner → one ≡ other

-- pools for devices have no address in common with each other or with a pool of modems, and no relay with each other; a device's address lies in one of
-- them, and a device of a modem has one address
abbrev pub DevicesStand : Rows → Type 0
DevicesStand rows =
    record {
      disjoint : (n : ℕ) (pool : Pool) (m : ℕ) (other : Pool) → rows (key.Pool n) ≡ Some (row.Pool pool) → rows (key.DevicePool m) ≡ Some (row.Pool other) → overlaps pool other ≡ false;
      apart : (n : ℕ) (pool : Pool) (m : ℕ) (other : Pool) → rows (key.DevicePool n) ≡ Some (row.Pool pool) → rows (key.DevicePool m) ≡ Some (row.Pool other)
          → is_apart n pool (m, other) ≡ true;
      one_pool : (address : Ip4) (lease : DeviceLease) → rows (key.Device address) ≡ Some (row.Device lease) → OnePoolOf key.DevicePool rows address;
      one_address : OwnedOnce rows;
    }

pub record GoodRows (rows : Rows) : Type 0 where
  pub possible : Possible rows
  pub add_on : (n k : ℕ) (held : Row) → rows (key.AddOn n k) ≡ Some held → Has rows (key.Subscriber n)
  pub subscriber : (mac : Mac) (modem : Modem) → rows (key.Modem mac) ≡ Some (row.Modem modem) → Has rows (key.Subscriber modem.subscriber)
  pub class : (mac : Mac) (modem : Modem) → rows (key.Modem mac) ≡ Some (row.Modem modem) → Has rows (key.Class modem.class)
  pub apart : (n : ℕ) (pool : Pool) (m : ℕ) (other : Pool) → rows (key.Pool n) ≡ Some (row.Pool pool) → rows (key.Pool m) ≡ Some (row.Pool other) → is_apart n pool (m, other) ≡ true
  pub site_alone : (held : Row) → rows key.Site ≡ Some held → (n : ℕ) → (rows (key.Hub n) ≡ None) × (rows (key.PoolHub n) ≡ None)
  pub pool_hub : (n hub : ℕ) → rows (key.PoolHub n) ≡ Some (row.PoolHub hub) → Has rows (key.Pool n) × HubThere rows hub
  pub lease_hub : (address : Ip4) (lease : Lease) → rows (key.Lease address) ≡ Some (row.Lease lease) → (n : ℕ) (pool : Pool) → rows (key.Pool n) ≡ Some (row.Pool pool)
      → has_address pool address ≡ true → HubThere rows (hub_at rows n)
  pub one_pool : (address : Ip4) (lease : Lease) → rows (key.Lease address) ≡ Some (row.Lease lease) → OnePool rows address
  pub holder : (address : Ip4) (lease : Lease) (mac : Mac) → rows (key.Lease address) ≡ Some (row.Lease lease) → owner_of lease.hold ≡ Some mac → rows (key.Held mac) ≡ Some (row.Held address)
  pub owner : (mac : Mac) (address : Ip4) → rows (key.Held mac) ≡ Some (row.Held address) → OwnedBy rows mac address
  pub devices : DevicesStand rows
