-- Laws of devices' leases.
use Rattle.std.specs.Prelude.{◌≡◌, ◌⊎◌, ℕ, ◌≤◌, Some}
use Rattle.off_base.specs.declared.macs.Mac.{Mac}
use Rattle.off_defs.specs.declared.tables.Subscriber.{Subscriber}
use Rattle.off_defs.specs.State.{Tables}
use Rattle.off_defs.specs.Tables.{write_all}
use Rattle.off_dhcp.specs.Datagram.{Received}
use Rattle.off_account_rules.specs.Rows.{devices}
use Rattle.off_account_rules.specs.Good.{Good}
use Rattle.off_table_laws.specs.Laws.{OneAddress}
use Rattle.off_asking.specs.Asking.{client}
use Rattle.off_cpe_rules.specs.Behind.{device_case, others_among, behind_among}
use Rattle.off_cpe_rules.specs.Steps.{step_behind}
use Rattle.off_cpe_rules.specs.declared.words.DeviceWord.TheVariants as word

-- the tables after a message of a device behind a modem
abbrev pub after_step : Tables → ℕ → Received → Mac → Tables
after_step tables now m modem = write_all tables (step_behind tables now m modem).writes

abbrev pub OneAddressStays : Type 0
OneAddressStays =
    (tables : Tables) (now : ℕ) (m : Received) (modem : Mac) → OneAddress tables →
    OneAddress (after_step tables now m modem)

-- what other devices have behind the modem never grows by it
abbrev pub OthersDontGrow : Type 0
OthersDontGrow =
    (tables : Tables) (now : ℕ) (m : Received) (modem : Mac) →
    others_among now modem (client m) (devices (after_step tables now m modem))
    ≤ others_among now modem (client m) (devices tables)

-- after an OFFER or an ACK the live leases behind the modem are as many as its subscriber may have
abbrev pub LimitHolds : Type 0
LimitHolds =
    (tables : Tables) (now : ℕ) (m : Received) (modem : Mac) (subscriber : Subscriber) →
    OneAddress tables
    → ((step_behind tables now m modem).word ≡ word.Offer)
    ⊎ ((step_behind tables now m modem).word ≡ word.Ack)
    → (device_case tables now m modem).subscriber ≡ Some subscriber →
    behind_among now modem (devices (after_step tables now m modem)) ≤ subscriber.cpes

-- what a device's message leaves of good tables is good
abbrev pub StepKeepsGood : Type 0
StepKeepsGood =
    (tables : Tables) (now : ℕ) (m : Received) (modem : Mac) → Good tables →
    Good (after_step tables now m modem)
