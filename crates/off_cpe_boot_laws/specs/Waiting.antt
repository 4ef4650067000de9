-- What may come between two messages of a device that has an address: all that others do, and its
-- own messages again, while its lease lasts and it doesn't give the address up.
use Rattle.std.specs.Prelude.{◌≡◌, ◌≢◌, ◌⊎◌, ℕ, ◌<◌, true, IsTrue, List, ◌∷◌, ◌++◌, All, Some}
use Rattle.off_base.specs.declared.addresses.Ip4.{Ip4}
use Rattle.off_base.specs.declared.macs.Mac.{Mac}
use Rattle.off_defs.specs.declared.results.Outcome.TheVariants.{Did}
use Rattle.off_defs.specs.declared.tables.Pool.{Pool}
use Rattle.off_defs.specs.declared.tables.DeviceHold.TheVariants.{Bound}
use Rattle.off_defs.specs.declared.tables.DeviceLease.{DeviceLease}
use Rattle.off_defs.specs.State.{Tables, State}
use Rattle.off_dhcp.specs.Datagram.{Received}
use Rattle.off_account_rules.specs.Rows.{device_pool_in, device_in, has_address}
use Rattle.off_account_rules.specs.Good.{Good, device_owner}
use Rattle.off_table_laws.specs.Laws.{device_owner_in}
use Rattle.off_asking.specs.Asking.{client, claimed}
use Rattle.off_cpe_rules.specs.Words.{acts}
use Rattle.off_cpe_rules.specs.declared.words.DeviceWord.{DeviceWord}
use Rattle.off_book.specs.Dhcp.{device_line}
use Rattle.off_book.specs.Step.{Step}
use Rattle.off_book.specs.Run.{Turn, Run, effect_of}
use Rattle.off_laws.specs.Leases.{TakesMessage, moment_of}
use Rattle.off_boot_laws.specs.Known.{IsPoolOf}
use Rattle.off_cpe_boot_laws.specs.Known.{IsBehind}
use Rattle.off_cpe_boot_laws.specs.Stages.{device_until}

-- a turn that served a device: its line has one of the four words that act
pub record ServesDevice (device : Mac) (turn : Turn) : Type 0 where
  pub message : Received
  pub word : DeviceWord
  pub takes : TakesMessage message turn
  pub sender : client message ≡ device
  pub line : turn.said.line ≡ device_line word
  pub acting : acts word ≡ true

abbrev pub DoesNotServeDevice : Mac → Turn → Type 0
DoesNotServeDevice device turn = ServesDevice device turn → ⊥

-- A device gives its address up by a DISCOVER by way of a pool that doesn't have it,
pub record Leaves (tables : Tables) (m : Received) (address : Ip4) : Type 0 where
  pub kind : m.kind ≡ 1
  pub elsewhere : (number : ℕ) (pool : Pool) → device_pool_in tables number ≡ Some pool
      → IsPoolOf m pool → IsTrue (has_address pool address) → ⊥

-- or by its DECLINE or RELEASE.
pub record GivesBack (m : Received) (address : Ip4) : Type 0 where
  pub kind : (m.kind ≡ 4) ⊎ (m.kind ≡ 7)
  pub claim : claimed m ≡ Some address

-- the turn served the device behind the modem so
pub record GivesUp (modem device : Mac) (address : Ip4) (s : State) (turn : Turn) : Type 0 where
  pub served : ServesDevice device turn
  pub behind : IsBehind s.tables served.message modem
  pub gives : Leaves s.tables served.message address ⊎ GivesBack served.message address

-- the lease of the address hasn't ended at the moment of a turn
abbrev pub DeviceLeaseLasts : Ip4 → State → Turn → Type 0
DeviceLeaseLasts address s turn =
    (lease : DeviceLease) → device_in s.tables address ≡ Some lease
    → moment_of s turn < lease.expiry.0

-- So it waits: at each turn its lease lasts, and it doesn't give the address up.
abbrev pub DeviceWaits : Mac → Mac → Ip4 → State → List Turn → Type 0
DeviceWaits modem device address s turns =
    (before later : List Turn) (turn : Turn) (from : State) → turns ≡ before ++ turn ∷ later
    → Run s before from
    → DeviceLeaseLasts address from turn × (GivesUp modem device address from turn → ⊥)

-- After that the address is offered or bound to it still; and bound, where it was bound.
pub record IsDeviceBound (modem device : Mac) (address : Ip4) (tables : Tables) : Type 0 where
  pub expiry : ℕ
  pub is : device_in tables address ≡ Some (device_until (Bound modem device) expiry)

pub record DeviceKeeps (modem device : Mac) (address : Ip4) (old new : Tables) : Type 0 where
  pub owned : device_owner_in new address ≡ Some (modem, device)
  pub bound : IsDeviceBound modem device address old → IsDeviceBound modem device address new

abbrev pub WaitingDevicesKeep : Type 0
WaitingDevicesKeep =
    (s last : State) (turns : List Turn) (modem device : Mac) (address : Ip4)
    → Good s.tables → Run s turns last
    → device_owner_in s.tables address ≡ Some (modem, device)
    → DeviceWaits modem device address s turns
    → DeviceKeeps modem device address s.tables last.tables

-- Until it ends, a lease that is offered or bound to a device outlasts all turns that don't serve
-- the device.
abbrev pub DeviceLeasesOutlast : Type 0
DeviceLeasesOutlast =
    (s last : State) (turns : List Turn) (modem device : Mac) (address : Ip4) (lease : DeviceLease)
    → Good s.tables → Run s turns last
    → device_in s.tables address ≡ Some lease → device_owner lease.hold ≡ Some (modem, device)
    → All (DoesNotServeDevice device) turns → last.held.now < lease.expiry.0
    → device_in last.tables address ≡ Some lease

-- and meanwhile the device waits
abbrev pub DevicesLeftAloneWait : Type 0
DevicesLeftAloneWait =
    (s last : State) (turns : List Turn) (modem device : Mac) (address : Ip4) (lease : DeviceLease)
    → Good s.tables → Run s turns last
    → device_in s.tables address ≡ Some lease → device_owner lease.hold ≡ Some (modem, device)
    → All (DoesNotServeDevice device) turns → last.held.now < lease.expiry.0
    → DeviceWaits modem device address s turns

-- A turn doesn't serve a device where the office couldn't act on the event, nor where it takes
-- another client's message.
pub record OthersDoNotServeDevice (device : Mac) (turn : Turn) : Type 0 where
  pub undone : turn.outcome ≢ Did → DoesNotServeDevice device turn
  pub another : (m : Received) → TakesMessage m turn → client m ≢ device
      → DoesNotServeDevice device turn

abbrev pub MostDoNotServeDevices : Type 0
MostDoNotServeDevices =
    (s after : State) (turn : Turn) (device : Mac)
    → Step s turn.event turn.outcome (effect_of turn after) → OthersDoNotServeDevice device turn
