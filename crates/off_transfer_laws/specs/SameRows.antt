-- The rows that count for a peer's address: the site, the lease, and where a modem owns it the
-- modem's own row, its class, its subscriber and the subscriber's add-ons.
use Rattle.std.specs.Prelude.{◌≡◌, ℕ, Some}
use Rattle.off_base.specs.declared.addresses.Ip4.{Ip4}
use Rattle.off_base.specs.declared.macs.Mac.{Mac}
use Rattle.off_defs.specs.declared.tables.Modem.{Modem}
use Rattle.off_defs.specs.State.{Tables}
use Rattle.off_account_rules.specs.Rows.{site_of, subscriber_in, add_on_in, modem_in, class_in, lease_in}
use Rattle.off_transfer_rules.specs.Requests.{Datagram}
use Rattle.off_transfer_rules.specs.View.{owner_by}
use Rattle.off_transfer_rules.specs.Transfers.{Transfers}
use Rattle.off_transfer_rules.specs.Steps.{Given, TftpStep}

pub record SameForModem (tables other : Tables) (modem : Modem) : Type 0 where
  pub classes : class_in tables modem.class ≡ class_in other modem.class
  pub subscribers : subscriber_in tables modem.subscriber ≡ subscriber_in other modem.subscriber
  pub add_ons : (k : ℕ) → add_on_in tables modem.subscriber k ≡ add_on_in other modem.subscriber k

abbrev pub IsOwner : Tables → Ip4 → Mac → Type 0
IsOwner tables ip mac = owner_by (lease_in tables ip) ≡ Some mac

pub record SameRows (tables other : Tables) (ip : Ip4) : Type 0 where
  pub sites : site_of tables ip ≡ site_of other ip
  pub leases : lease_in tables ip ≡ lease_in other ip
  pub modems : (mac : Mac) → IsOwner tables ip mac → modem_in tables mac ≡ modem_in other mac
  pub others : (mac : Mac) (modem : Modem) → IsOwner tables ip mac
      → modem_in tables mac ≡ Some modem → SameForModem tables other modem

-- no other row counts
abbrev pub RowsDecide : Type 0
RowsDecide =
    (tables other : Tables) (transfers : Transfers) (datagram : Datagram) (given : Given)
    → SameRows tables other datagram.from.ip
    → TftpStep tables transfers datagram given → TftpStep other transfers datagram given
