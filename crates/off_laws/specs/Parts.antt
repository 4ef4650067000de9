-- Which part of the state an event with an outcome may change, besides the moment. A service that
-- is built changes its line of `part_of`.
use Rattle.std.specs.Prelude.{◌≡◌, ◌≢◌, ◌⊎◌, ℕ, Bool, true, List, [], Option, Some, None, codes, option_and_then}
use Rattle.std.specs.FinMap as map
use Rattle.off_base.specs.declared.addresses.Peer.{Peer}
use Rattle.off_defs.specs.declared.events.Service.TheVariants.{Dhcp, Time, Tftp}
use Rattle.off_defs.specs.declared.events.What.{What}
use Rattle.off_defs.specs.declared.events.What.TheVariants.{Datagram, Piece, Closed, Tick, End}
use Rattle.off_defs.specs.declared.results.Outcome.{Outcome}
use Rattle.off_defs.specs.declared.results.Outcome.TheVariants.{Did, Memory, Keeper}
use Rattle.off_defs.specs.State.{State, Effect}
use Rattle.off_lease_rules.specs.Words.{acts}
use Rattle.off_lease_rules.specs.Steps.{dhcp_step}
use Rattle.off_lease_rules.specs.declared.results.LeaseStep.{LeaseStep}
use Rattle.off_cpe_rules.specs.Words as device
use Rattle.off_cpe_rules.specs.declared.results.DeviceStep.{DeviceStep}
use Rattle.off_book.specs.Dhcp.{device_of}
use Rattle.off_transfer_rules.specs.Ticks.{tick_of}

-- nothing; the bytes of one connection; that and the tables, as a clerk's request asks; the tables,
-- as a client's message asks; the transfer of one peer; the transfers, as time passes
pub data Part : Type 0 where
  untouched : Part
  a_connection : (conn : ℕ) → Part
  by_request : (conn : ℕ) → Part
  by_message : (bytes : List ℕ) → Part
  by_packet : (from : Peer) → Part
  by_tick : Part

abbrev pub part_of : What → Outcome → Part
part_of (Datagram Dhcp from bytes) Did = by_message bytes
part_of (Datagram Dhcp from bytes) Memory = untouched
part_of (Datagram Dhcp from bytes) Keeper = untouched
part_of (Datagram Time from bytes) outcome = untouched
part_of (Datagram Tftp from bytes) Did = by_packet from
part_of (Datagram Tftp from bytes) Memory = untouched
part_of (Datagram Tftp from bytes) Keeper = untouched
part_of (Piece conn bytes) Did = by_request conn
part_of (Piece conn bytes) Memory = a_connection conn
part_of (Piece conn bytes) Keeper = a_connection conn
part_of (Closed conn) outcome = a_connection conn
part_of Tick Did = by_tick
part_of Tick Memory = untouched
part_of Tick Keeper = untouched
part_of End outcome = untouched

-- nothing is written, and what the office holds stays
pub record Untouched (s : State) (effect : Effect) : Type 0 where
  pub commit : effect.commit ≡ []
  pub connections : effect.after.held.connections ≡ s.held.connections
  pub transfers : effect.after.held.transfers ≡ s.held.transfers

-- every other connection is as it was
abbrev pub KeepsOthers : ℕ → State → Effect → Type 0
KeepsOthers conn s effect =
    (other : ℕ) → other ≢ conn
    → map.get effect.after.held.connections other ≡ map.get s.held.connections other

-- nothing is written, and the transfers stay
pub record Hears (conn : ℕ) (s : State) (effect : Effect) : Type 0 where
  pub commit : effect.commit ≡ []
  pub others : KeepsOthers conn s effect
  pub transfers : effect.after.held.transfers ≡ s.held.transfers

-- nothing is written, or the line says that the request was done; the transfers stay
pub record Requested (conn : ℕ) (s : State) (effect : Effect) : Type 0 where
  pub commit : (effect.commit ≡ []) ⊎ (effect.said.line ≡ codes "http 200")
  pub others : KeepsOthers conn s effect
  pub transfers : effect.after.held.transfers ≡ s.held.transfers

-- the word of a device's message, or else of a modem's, is one of those that act
abbrev pub acts_for : Option DeviceStep → LeaseStep → Bool
acts_for (Some step) lease = device.acts step.word
acts_for None lease = acts lease.word

-- nothing is written, or the message's word is one of those that act; what the office holds stays
pub record Messaged (bytes : List ℕ) (s : State) (effect : Effect) : Type 0 where
  pub commit : (effect.commit ≡ [])
      ⊎ (acts_for (device_of s.tables s.held.now bytes) (dhcp_step s.tables s.held.now bytes)
      ≡ true)
  pub connections : effect.after.held.connections ≡ s.held.connections
  pub transfers : effect.after.held.transfers ≡ s.held.transfers

-- nothing is written, and every other peer's transfer is as it was
pub record Packeted (from : Peer) (s : State) (effect : Effect) : Type 0 where
  pub commit : effect.commit ≡ []
  pub connections : effect.after.held.connections ≡ s.held.connections
  pub others : (peer : Peer) → peer ≢ from
      → map.get effect.after.held.transfers peer ≡ map.get s.held.transfers peer

-- nothing is written, and each transfer waits, is sent again, or is closed, by its own time alone
pub record Beaten (s : State) (effect : Effect) : Type 0 where
  pub commit : effect.commit ≡ []
  pub connections : effect.after.held.connections ≡ s.held.connections
  pub each : (peer : Peer)
      → map.get effect.after.held.transfers peer
      ≡ option_and_then (tick_of s.held.now) (map.get s.held.transfers peer)

abbrev pub Changes : Part → State → Effect → Type 0
Changes untouched s effect = Untouched s effect
Changes (a_connection conn) s effect = Hears conn s effect
Changes (by_request conn) s effect = Requested conn s effect
Changes (by_message bytes) s effect = Messaged bytes s effect
Changes (by_packet from) s effect = Packeted from s effect
Changes by_tick s effect = Beaten s effect
