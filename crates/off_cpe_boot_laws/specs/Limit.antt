-- A device's address counts for its modem: while its lease lasts, others get no more than the rest.
use Rattle.std.specs.Prelude.{◌≡◌, ℕ, ◌≤◌, List, ◌∷◌, ◌++◌, Some}
use Rattle.off_base.specs.declared.addresses.Ip4.{Ip4}
use Rattle.off_base.specs.declared.macs.Mac.{Mac}
use Rattle.off_defs.specs.declared.tables.Subscriber.{Subscriber}
use Rattle.off_defs.specs.declared.tables.Modem.{Modem}
use Rattle.off_defs.specs.State.{State}
use Rattle.off_account_rules.specs.Rows.{subscriber_in, modem_in}
use Rattle.off_account_rules.specs.Good.{Good}
use Rattle.off_table_laws.specs.Laws.{device_owner_in}
use Rattle.off_book.specs.Run.{Turn, Run}
use Rattle.off_cpe_boot_laws.specs.Known.{AreFewOthers}
use Rattle.off_cpe_boot_laws.specs.Waiting.{DeviceWaits}

-- at no turn might the modem's subscriber have more devices behind a modem than so many
abbrev pub NeverMayHaveMore : ℕ → Mac → State → List Turn → Type 0
NeverMayHaveMore most modem s turns =
    (before later : List Turn) (turn : Turn) (from : State) → turns ≡ before ++ turn ∷ later
    → Run s before from
    → (row : Modem) (subscriber : Subscriber) → modem_in from.tables modem ≡ Some row
    → subscriber_in from.tables row.subscriber ≡ Some subscriber → subscriber.cpes ≤ most

-- Where others had fewer addresses than so many, they have no more after turns in which a device of
-- the modem waits, at any moment from then on.
abbrev pub OthersStayFew : Mac → Mac → State → List Turn → State → Type 0
OthersStayFew modem device s turns last =
    (most now : ℕ) → NeverMayHaveMore most modem s turns
    → AreFewOthers s.tables s.held.now modem device most
    → last.held.now ≤ now → AreFewOthers last.tables now modem device most

abbrev pub WaitingDevicesKeepTheirPlace : Type 0
WaitingDevicesKeepTheirPlace =
    (s last : State) (turns : List Turn) (modem device : Mac) (address : Ip4)
    → Good s.tables → Run s turns last
    → device_owner_in s.tables address ≡ Some (modem, device)
    → DeviceWaits modem device address s turns
    → OthersStayFew modem device s turns last
