-- A device that asks is bound to an address, whatever other turns come between its own.
use Rattle.std.specs.Prelude.{◌≡◌, ◌⊎◌, ◌<◌, List, ◌∷◌, ◌++◌, All}
use Rattle.off_defs.specs.State.{State}
use Rattle.off_dhcp.specs.Datagram.{Received}
use Rattle.off_account_rules.specs.Good.{Good}
use Rattle.off_asking.specs.Asking.{client}
use Rattle.off_book.specs.Run.{Turn, Run}
use Rattle.off_laws.specs.Leases.{moment_of}
use Rattle.off_boot_laws.specs.Went.{GoesWell}
use Rattle.off_cpe_boot_laws.specs.Known.{IsOfDevice, IsBelowLimit}
use Rattle.off_cpe_boot_laws.specs.Stages.{DeviceDiscovers, IsOfferedAddress, DeviceRequests, IsGrantedAddress}
use Rattle.off_cpe_boot_laws.specs.Waiting.{DoesNotServeDevice, DeviceWaits}
use Rattle.off_cpe_boot_laws.specs.Limit.{NeverMayHaveMore}

-- a run, with its turns in which the device discovers and requests, and the states before these
pub record DeviceCourse (s : State) (turns : List Turn) : Type 0 where
  pub before : List Turn
  pub discovers : Turn
  pub between : List Turn
  pub requests : Turn
  pub later : List Turn
  pub parts : turns ≡ before ++ discovers ∷ (between ++ requests ∷ later)
  pub s0 : State
  pub s1 : State
  pub last : State
  pub up_to : Run s before s0
  pub first : Run s0 (discovers ∷ between) s1
  pub second : Run s1 (requests ∷ later) last

-- Its place is its own: the subscriber might never have more devices meanwhile than when the device
-- requests; or else others have fewer addresses then than the subscriber may have.
abbrev pub KeepsPlace : (s : State) (turns : List Turn) (c : DeviceCourse s turns) (n : Received)
    → IsOfDevice c.s1.tables (moment_of c.s1 c.requests) n → Type 0
KeepsPlace s turns c n known =
    NeverMayHaveMore known.subscriber.cpes known.modem c.s0 (c.discovers ∷ c.between)
    ⊎ IsBelowLimit c.s1.tables (moment_of c.s1 c.requests) n known

-- it requests that address behind that modem, and gets it
abbrev pub GetsWhatItRequests : (Turn → Type 0) → (s : State) (turns : List Turn)
    → (c : DeviceCourse s turns) (m n : Received) (d : DeviceDiscovers c.s0 m c.discovers)
    → IsOfferedAddress c.s0 m c.discovers d.known c.first.0 → Type 0
GetsWhatItRequests Well s turns c m n d offer =
    Well c.requests → (r : DeviceRequests c.s1 n c.requests offer.address)
    → r.known.modem ≡ d.known.modem → KeepsPlace s turns c n r.known
    → IsGrantedAddress c.s1 n c.requests offer.address r.known c.second.0

-- The device discovers, and is offered an address. It waits; or no turn serves it meanwhile, and
-- its request comes before the offer ends, in two minutes. Each of the two turns is to go well.
abbrev pub DeviceBindsBy : (Turn → Type 0) → State → List Turn → Type 0
DeviceBindsBy Well s turns =
    (c : DeviceCourse s turns) (m n : Received) → client n ≡ client m → Well c.discovers
    → (d : DeviceDiscovers c.s0 m c.discovers)
    → (offer : IsOfferedAddress c.s0 m c.discovers d.known c.first.0)
    × (DeviceWaits d.known.modem (client m) offer.address c.first.0 c.between
    → GetsWhatItRequests Well s turns c m n d offer)
    × (All (DoesNotServeDevice (client m)) c.between
    → moment_of c.s1 c.requests < offer.expiry
    → GetsWhatItRequests Well s turns c m n d offer)

abbrev pub DevicesThatAskAreBound : Type 0
DevicesThatAskAreBound =
    (s : State) (turns : List Turn) → Good s.tables → DeviceBindsBy GoesWell s turns
