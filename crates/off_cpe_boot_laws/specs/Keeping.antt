-- A device that has an address keeps it, as often as it asks for it again before its lease ends.
use Rattle.std.specs.Prelude.{◌≡◌, IsTrue, List, ◌∷◌, ◌++◌, Some}
use Rattle.off_base.specs.declared.addresses.Ip4.{Ip4}
use Rattle.off_base.specs.declared.macs.Mac.{Mac}
use Rattle.off_defs.specs.State.{State}
use Rattle.off_dhcp.specs.Datagram.{Received}
use Rattle.off_account_rules.specs.Rows.{has_address}
use Rattle.off_account_rules.specs.Good.{Good}
use Rattle.off_table_laws.specs.Laws.{device_owner_in}
use Rattle.off_asking.specs.Asking.{client}
use Rattle.off_book.specs.Step.{Step}
use Rattle.off_book.specs.Run.{Turn, Run, effect_of}
use Rattle.off_laws.specs.Leases.{moment_of}
use Rattle.off_boot_laws.specs.Went.{GoesWell}
use Rattle.off_cpe_boot_laws.specs.Known.{IsBelowLimit}
use Rattle.off_cpe_boot_laws.specs.Stages.{DeviceDiscovers, IsOfferedAddress, DeviceRequests, IsGrantedAddress}
use Rattle.off_cpe_boot_laws.specs.Waiting.{DeviceWaits, DeviceKeeps}
use Rattle.off_cpe_boot_laws.specs.Limit.{OthersStayFew}

-- it's offered the address that it has, and acknowledged it, where others have fewer than may have
pub record DeviceGetsAnswers (Well : Turn → Type 0) (modem device : Mac) (address : Ip4)
    (s : State) (turn : Turn) (after : State) : Type 0 where
  pub offered : (m : Received) → Well turn → client m ≡ device → (d : DeviceDiscovers s m turn)
      → d.known.modem ≡ modem → IsTrue (has_address d.known.pool address)
      → (offer : IsOfferedAddress s m turn d.known after) × (offer.address ≡ address)
  pub acknowledged : (m : Received) → Well turn → client m ≡ device
      → (r : DeviceRequests s m turn address) → r.known.modem ≡ modem
      → IsBelowLimit s.tables (moment_of s turn) m r.known
      → IsGrantedAddress s m turn address r.known after

-- Over each stretch of a run in which it waits it keeps the address and its place, and whatever it
-- asks of it after that is answered. The stretch may have any number of its own requests.
pub record DeviceKeepsAnswered (Well : Turn → Type 0) (modem device : Mac) (address : Ip4)
    (from to : State) (stretch later : List Turn) : Type 0 where
  pub keeps : DeviceKeeps modem device address from.tables to.tables
  pub place : OthersStayFew modem device from stretch to
  pub answered : (turn : Turn) (turns : List Turn) (after : State) → later ≡ turn ∷ turns
      → Step to turn.event turn.outcome (effect_of turn after)
      → DeviceGetsAnswers Well modem device address to turn after

abbrev pub DeviceKeepsBy : (Turn → Type 0) → State → List Turn → Type 0
DeviceKeepsBy Well s turns =
    (before stretch later : List Turn) (from to : State) (modem device : Mac) (address : Ip4)
    → turns ≡ before ++ (stretch ++ later) → Run s before from → Run from stretch to
    → device_owner_in from.tables address ≡ Some (modem, device)
    → DeviceWaits modem device address from stretch
    → DeviceKeepsAnswered Well modem device address from to stretch later

abbrev pub DevicesThatAskAgainKeep : Type 0
DevicesThatAskAgainKeep =
    (s : State) (turns : List Turn) → Good s.tables → DeviceKeepsBy GoesWell s turns
