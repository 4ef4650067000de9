-- A device behind a modem that may have an address: what its message and its relay say, and what
-- the tables must have for it.
use Rattle.std.specs.Prelude.{◌≡◌, ◌≢◌, ◌⊎◌, ◌↔◌, ℕ, ◌<◌, true, false, is_err, List, [], ◌∷◌, length, Some}
use Rattle.std.specs.List.{AllByRecursion}
use Rattle.off_base.specs.declared.addresses.Ip4.{Ip4}
use Rattle.off_base.specs.declared.macs.Mac.{Mac}
use Rattle.off_defs.specs.declared.tables.Site.{Site}
use Rattle.off_defs.specs.declared.tables.Subscriber.{Subscriber}
use Rattle.off_defs.specs.declared.tables.Modem.{Modem}
use Rattle.off_defs.specs.declared.tables.Pool.{Pool}
use Rattle.off_defs.specs.declared.tables.DeviceLease.{DeviceLease}
use Rattle.off_defs.specs.State.{Tables}
use Rattle.off_dhcp.specs.Datagram.{Received}
use Rattle.off_account_rules.specs.Rows.{site_of, subscriber_in, modem_in, lease_in, device_pool_in, device_in}
use Rattle.off_account_rules.specs.Good.{device_owner}
use Rattle.off_table_laws.specs.Laws.{device_owner_in}
use Rattle.off_asking.specs.Asking.{ip, client, relay_parts, remote_identifier}
use Rattle.off_lease_laws.specs.Effects.{IsLiveBound}
use Rattle.off_cpe_rules.specs.Behind.{modem_behind}
use Rattle.off_boot_laws.specs.Known.{IsPoolOf}

-- ---- the modem: its relay names one on record by its six bytes, and not the client itself

pub record IsNamed (tables : Tables) (m : Received) (modem : Mac) : Type 0 where
  pub row : Modem
  pub row_is : modem_in tables modem ≡ Some row
  pub says : remote_identifier m ≡ Some modem.0
  pub six : length modem.0 ≡ 6
  pub apart : client m ≢ modem

-- or no relay names one by six bytes, and the client renews or releases the address that it has
-- behind the modem
pub record IsRecorded (tables : Tables) (m : Received) (modem : Mac) : Type 0 where
  pub whole : is_err (relay_parts m) ≡ false
  pub unnamed : (value : List ℕ) → remote_identifier m ≡ Some value → length value ≢ 6
  pub kind : (m.kind ≡ 3) ⊎ (m.kind ≡ 7)
  pub own : device_owner_in tables (ip m.ciaddr) ≡ Some (modem, client m)

abbrev pub IsBehind : Tables → Received → Mac → Type 0
IsBehind tables m modem = IsNamed tables m modem ⊎ IsRecorded tables m modem

-- and that's whom the office takes for behind it
abbrev pub WhoIsBehind : Type 0
WhoIsBehind =
    (tables : Tables) (m : Received) (modem : Mac)
    → (modem_behind tables m ≡ Some modem) ↔ IsBehind tables m modem

-- ---- the limit: an address is another device's behind the modem, and its lease hasn't ended

pub record IsOfAnother (tables : Tables) (now : ℕ) (modem device : Mac) (address : Ip4)
    : Type 0 where
  pub other : Mac
  pub lease : DeviceLease
  pub lease_is : device_in tables address ≡ Some lease
  pub owned : device_owner lease.hold ≡ Some (modem, other)
  pub apart : other ≢ device
  pub live : now < lease.expiry.0

abbrev pub Differ : List Ip4 → Type 0
Differ [] = Unit {0}
Differ (one ∷ others) = AllByRecursion (λ other. one ≢ other) others × Differ others

-- however such addresses are listed, each once, they are fewer than so many
abbrev pub AreFewOthers : Tables → ℕ → Mac → Mac → ℕ → Type 0
AreFewOthers tables now modem device most =
    (others : List Ip4) → Differ others
    → AllByRecursion (IsOfAnother tables now modem device) others → length others < most

-- ---- The device is behind a modem whose subscriber has service, and which is bound to an address
-- until some later moment; the address has a hub. A pool for devices is behind the relay, or, where
-- the device renews without one, has its address.
pub record IsOfDevice (tables : Tables) (now : ℕ) (m : Received) : Type 0 where
  pub modem : Mac
  pub behind : IsBehind tables m modem
  pub row : Modem
  pub row_is : modem_in tables modem ≡ Some row
  pub subscriber : Subscriber
  pub subscriber_is : subscriber_in tables row.subscriber ≡ Some subscriber
  pub active : subscriber.active ≡ true
  pub online : Ip4
  pub bound : IsLiveBound now modem (lease_in tables online)
  pub site : Site
  pub site_is : site_of tables online ≡ Some site
  pub number : ℕ
  pub pool : Pool
  pub pool_is : device_pool_in tables number ≡ Some pool
  pub pooled : IsPoolOf m pool

-- and fewer other devices behind the modem have addresses than the subscriber may have
abbrev pub IsBelowLimit : (tables : Tables) (now : ℕ) (m : Received) → IsOfDevice tables now m
    → Type 0
IsBelowLimit tables now m known =
    AreFewOthers tables now known.modem (client m) known.subscriber.cpes
