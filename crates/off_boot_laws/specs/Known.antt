-- A modem on record, and what its message says: there is a pool for it, that of its relay, or,
-- where it renews without one, that of its address, and the pool's hub is there; the parts of its
-- options can be read; the relay names it, or nobody by six bytes (RFC 3046, section 3.2); option 60,
-- where it's there, is a modem's; and the serial number is that of its row, where both have one.
use Rattle.std.specs.Prelude.{◌≡◌, ◌≢◌, ◌⊎◌, ℕ, true, false, is_err, IsTrue, List, [], length, Option, Some, None}
use Rattle.off_defs.specs.declared.tables.Site.{Site}
use Rattle.off_defs.specs.declared.tables.Pool.{Pool}
use Rattle.off_defs.specs.declared.tables.Modem.{Modem}
use Rattle.off_defs.specs.State.{Tables}
use Rattle.off_dhcp.specs.Datagram.{Received, mac_of_client, option_in}
use Rattle.off_docsis.specs.Cable.{begins_as_modem}
use Rattle.off_account_rules.specs.Rows.{hub_in, pool_hub_in, modem_in, pool_in, has_address}
use Rattle.off_asking.specs.Asking.{ip, client, vendor_parts, relay_parts, serial_number, remote_identifier}
use Rattle.off_asking.specs.Choice.{is_renewal}

abbrev pub IsPoolOf : Received → Pool → Type 0
IsPoolOf m pool =
    ((m.giaddr ≢ 0) × (pool.relay.0 ≡ m.giaddr))
    ⊎ ((m.giaddr ≡ 0) × IsTrue (is_renewal m) × IsTrue (has_address pool (ip m.ciaddr)))

abbrev pub IsOwn : List ℕ → Option (List ℕ) → Type 0
IsOwn own None = Unit {0}
IsOwn own (Some value) = value ≡ own

-- a name that could be a modem's, of six bytes, is this one
abbrev pub NamesNoOther : List ℕ → Option (List ℕ) → Type 0
NamesNoOther own None = Unit {0}
NamesNoOther own (Some value) = length value ≡ 6 → value ≡ own

abbrev pub SaysModem : Option (List ℕ) → Type 0
SaysModem None = Unit {0}
SaysModem (Some class) = begins_as_modem class ≡ true

pub record IsOfModem (tables : Tables) (m : Received) : Type 0 where
  pub site : Site
  pub number : ℕ
  pub pool : Pool
  pub modem : Modem
  pub site_is : hub_in tables (pool_hub_in tables number) ≡ Some site
  pub pool_is : pool_in tables number ≡ Some pool
  pub pooled : IsPoolOf m pool
  pub modem_is : modem_in tables (client m) ≡ Some modem
  pub vendor : is_err (vendor_parts m) ≡ false
  pub relay : is_err (relay_parts m) ≡ false
  pub remote : NamesNoOther (mac_of_client m) (remote_identifier m)
  pub class : SaysModem (option_in 60 m.options)
  pub serial : (modem.serial ≡ []) ⊎ IsOwn modem.serial (serial_number m)
