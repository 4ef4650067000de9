-- What holds of devices' leases at a turn of a run.
use Rattle.std.specs.Prelude.{◌≡◌, ◌⊎◌, ℕ, ◌<◌, ◌≤◌, Bool, true, false, IsTrue, List, ◌∷◌, ◌++◌, Option, Some, None, option_and_then, codes}
use Rattle.off_base.specs.declared.addresses.Ip4.{Ip4}
use Rattle.off_base.specs.declared.macs.Mac.{Mac}
use Rattle.off_defs.specs.declared.keys.Key.{Key}
use Rattle.off_defs.specs.declared.keys.Key.TheVariants as key
use Rattle.off_defs.specs.declared.tables.Lease.{Lease}
use Rattle.off_defs.specs.declared.tables.DeviceLease.{DeviceLease}
use Rattle.off_defs.specs.declared.tables.Pool.{Pool}
use Rattle.off_defs.specs.declared.tables.Subscriber.{Subscriber}
use Rattle.off_defs.specs.State.{Tables, State}
use Rattle.off_defs.specs.Tables.{row_at}
use Rattle.off_dhcp.specs.Datagram.{Received}
use Rattle.off_account_rules.specs.Rows.{subscriber_in, modem_in, pool_in, lease_in, device_in, devices, has_address}
use Rattle.off_account_rules.specs.Good.{device_owner}
use Rattle.off_table_laws.specs.Laws.{OneAddress, LiesInOneDevicePool}
use Rattle.off_cpe_rules.specs.Behind.{modem_behind, behind_among}
use Rattle.off_book.specs.Step.{Step}
use Rattle.off_book.specs.Run.{Turn, Run, effect_of}
use Rattle.off_laws.specs.Leases.{TakesMessage}

-- ---- in every state

-- the address is offered or bound to the device behind the modem, and its lease hasn't ended
pub record IsLiveFor (s : State) (owner : Mac × Mac) (address : Ip4) : Type 0 where
  pub lease : DeviceLease
  pub is : device_in s.tables address ≡ Some lease
  pub owned : device_owner lease.hold ≡ Some owner
  pub live : s.held.now < lease.expiry.0

pub record DevicesAreRight (s : State) : Type 0 where
  pub one_device : (address : Ip4) (one other : Mac × Mac) → IsLiveFor s one address
      → IsLiveFor s other address → one ≡ other
  pub one_address : OneAddress s.tables
  pub in_one_pool : (address : Ip4) (lease : DeviceLease) → device_in s.tables address ≡ Some lease
      → LiesInOneDevicePool s.tables address
  pub aside : (address : Ip4) (n : ℕ) (pool : Pool) → pool_in s.tables n ≡ Some pool
      → IsTrue (has_address pool address) → device_in s.tables address ≡ None
  -- so no address is a modem's and a device's at once
  pub apart : (address : Ip4) (lease : Lease) → lease_in s.tables address ≡ Some lease
      → device_in s.tables address ≡ None

-- ---- behind a turn that offers a device an address, or acknowledges it

abbrev pub Grants : List ℕ → Type 0
Grants line = (line ≡ codes "dhcp cpe-offer") ⊎ (line ≡ codes "dhcp cpe-ack")

-- the subscriber of a modem
abbrev pub subscriber_of : Tables → Mac → Option Subscriber
subscriber_of tables modem =
    option_and_then (λ row. subscriber_in tables row.subscriber) (modem_in tables modem)

-- The turn took a message of a device behind a modem. After it no more devices behind that modem
-- have live leases than its subscriber may have.
pub record IsWithinLimit (s : State) (turn : Turn) (after : State) : Type 0 where
  pub message : Received
  pub modem : Mac
  pub subscriber : Subscriber
  pub takes : TakesMessage message turn
  pub behind : modem_behind s.tables message ≡ Some modem
  pub subscriber_is : subscriber_of after.tables modem ≡ Some subscriber
  pub within : behind_among after.held.now modem (devices after.tables) ≤ subscriber.cpes

-- ---- behind a turn that took a message of a device: every row but leases of devices is as it was

abbrev pub is_device : Key → Bool
is_device (key.Device address) = true
is_device other = false

abbrev pub LeavesOthers : Tables → Tables → Type 0
LeavesOthers old new = (key : Key) → is_device key ≡ false → row_at new key ≡ row_at old key

pub record TakesDevices (s : State) (turn : Turn) : Type 0 where
  pub message : Received
  pub modem : Mac
  pub takes : TakesMessage message turn
  pub behind : modem_behind s.tables message ≡ Some modem

-- ---- a run as a whole

pub record DevicesHold (from : State) (turn : Turn) (to : State) : Type 0 where
  pub right : DevicesAreRight from
  pub right_again : DevicesAreRight to
  pub limit : Grants turn.said.line → IsWithinLimit from turn to
  pub others : TakesDevices from turn → LeavesOthers from.tables to.tables

-- and so at its start, and at each turn of it
pub record DevicesHoldThrough (s : State) (turns : List Turn) : Type 0 where
  pub first : DevicesAreRight s
  pub each : (before later : List Turn) (turn : Turn) (from to : State)
      → turns ≡ before ++ turn ∷ later → Run s before from
      → Step from turn.event turn.outcome (effect_of turn to) → DevicesHold from turn to
