-- What the laws ask of a device and of the office for it can be met together. An office has one
-- modem, which is bound to its address for a day and may have two devices, and a pool for devices
-- from 10.128.0.10 to 10.128.0.20. A device discovers, and requests 10.128.0.10 a second before two
-- minutes have passed.
use Rattle.std.specs.Prelude.{◌≡◌, ℕ, true, pos, List, [], ◌∷◌, ◌++◌, replicate, Some, codes}
use Rattle.std.specs.FinMap as map
use Rattle.off_base.specs.Tree.{Tree, leaf, group, no_more, followed}
use Rattle.off_base.specs.declared.addresses.Ip4.{Ip4}
use Rattle.off_base.specs.declared.addresses.Peer.{Peer}
use Rattle.off_base.specs.declared.macs.Mac.{Mac}
use Rattle.off_defs.specs.declared.events.Event.{Event}
use Rattle.off_defs.specs.declared.events.Service.TheVariants.{Dhcp}
use Rattle.off_defs.specs.declared.events.What.TheVariants.{Datagram}
use Rattle.off_defs.specs.declared.keys.Key.TheVariants as key
use Rattle.off_defs.specs.declared.tables.Row.TheVariants as row
use Rattle.off_defs.specs.declared.tables.Site.{Site}
use Rattle.off_defs.specs.declared.tables.Subscriber.{Subscriber}
use Rattle.off_defs.specs.declared.tables.Modem.{Modem}
use Rattle.off_defs.specs.declared.tables.Class.{Class}
use Rattle.off_defs.specs.declared.tables.Pool.{Pool}
use Rattle.off_defs.specs.declared.tables.Hold.TheVariants as hold
use Rattle.off_defs.specs.declared.tables.Lease.{Lease}
use Rattle.off_defs.specs.declared.tables.DeviceHold.TheVariants.{Offered, Bound}
use Rattle.off_defs.specs.State.{Tables, State, start}
use Rattle.off_defs.specs.Tables.{with_row}
use Rattle.off_dhcp.specs.Datagram.{Received, magic_cookie}
use Rattle.off_dhcp.specs.Reply.{zeros, four, option}
use Rattle.off_account_rules.specs.Rows.{device_in}
use Rattle.off_account_rules.specs.Good.{Good}
use Rattle.off_asking.specs.Asking.{ip}
use Rattle.off_book.specs.Step.{Step}
use Rattle.off_book.specs.Run.{Turn, effect_of}
use Rattle.off_laws.specs.Leases.{moment_of}
use Rattle.off_boot_laws.specs.Went.{GoesWell}
use Rattle.off_cpe_boot_laws.specs.Known.{IsBelowLimit}
use Rattle.off_cpe_boot_laws.specs.Stages.{device_until, DeviceDiscovers, DeviceRequests}
use Rattle.off_cpe_boot_laws.specs.Waiting.{DeviceWaits}
use Rattle.off_cpe_boot_laws.specs.Limit.{NeverMayHaveMore}

-- ---- the office's tables

abbrev pub site : Site
site = record {
  server = ip 0x0a000002;
  secret = codes "secret";
  offset = pos 0;
  lease = 86400;
  log = ip 0;
}

abbrev pub subscriber : Subscriber
subscriber = record { active = true; cpes = 2; name = codes "Ann" }

-- a flow with its reference, and the bits that provision, admit and activate it
abbrev pub flow : ℕ → ℕ → Tree
flow code reference =
    group code (followed (leaf 1 (0 ∷ reference ∷ [])) (followed (leaf 6 (7 ∷ [])) no_more))

abbrev pub class : Class
class = record { name = codes "gold"; settings = flow 24 1 ∷ flow 25 2 ∷ [] }

abbrev pub modem : Mac
modem = record { 0 = 2 ∷ 0xaa ∷ 0xbb ∷ 0xcc ∷ 0xdd ∷ 0xee ∷ [] }

abbrev pub modem_row : Modem
modem_row = record { subscriber = 7; class = 1; serial = [] }

abbrev pub modem_pool : Pool
modem_pool = record {
  first = ip 0x0a40000a;
  last = ip 0x0a400014;
  prefix = 24;
  router = ip 0x0a400001;
  relay = ip 0x0a400001;
}

abbrev pub device_pool : Pool
device_pool = record {
  first = ip 0x0a80000a;
  last = ip 0x0a800014;
  prefix = 24;
  router = ip 0x0a800001;
  relay = ip 0x0a800001;
}

abbrev pub modem_address : Ip4
modem_address = ip 0x0a40000a

abbrev pub modem_lease : Lease
modem_lease = record { hold = hold.Bound modem; expiry = record { 0 = 1700086400 } }

abbrev pub with_site : Tables
with_site = with_row map.empty (key.Hub 0) (row.Site site)

abbrev pub with_modem : Tables
with_modem =
    with_row (with_row (with_row with_site (key.Subscriber 7) (row.Subscriber subscriber))
    (key.Class 1) (row.Class class)) (key.Modem modem) (row.Modem modem_row)

abbrev pub with_pools : Tables
with_pools =
    with_row (with_row with_modem (key.Pool 1) (row.Pool modem_pool))
    (key.DevicePool 1) (row.Pool device_pool)

unfoldable pub tables : Tables
tables =
    with_row (with_row with_pools (key.Lease modem_address) (row.Lease modem_lease))
    (key.Held modem) (row.Held modem_address)

-- ---- what the device sends, by way of the relay, which names the modem

abbrev pub device : Mac
device = record { 0 = 2 ∷ 0 ∷ 0 ∷ 0 ∷ 0 ∷ 0xa1 ∷ [] }

abbrev pub address : Ip4
address = ip 0x0a80000a

abbrev pub said : ℕ → List ℕ → List ℕ
said kind options =
    (1 ∷ 1 ∷ 6 ∷ 0 ∷ []) ++ four 1 ++ zeros 16 ++ four 0x0a800001 ++ device.0 ++ zeros 202
    ++ magic_cookie ++ option 53 (kind ∷ []) ++ options ++ option 82 (option 2 modem.0)
    ++ (255 ∷ [])

abbrev pub heard : ℕ → List ℕ → Received
heard kind options = record {
  kind = kind;
  xid = 1;
  flags = 0;
  ciaddr = 0;
  giaddr = 0x0a800001;
  hardware = device.0 ++ replicate 10 0;
  options =
      option 53 (kind ∷ []) ++ options ++ option 82 (option 2 modem.0) ++ (255 ∷ []);
}

-- it requests the address, of the server that offered it
abbrev pub selects : List ℕ
selects = option 50 (four address.0) ++ option 54 (four site.server.0)

abbrev pub by_relay : Peer
by_relay = record { ip = ip 0x0a800001; port = 67 }

abbrev pub event_at : ℕ → List ℕ → Event
event_at moment bytes =
    record { at = record { 0 = moment }; what = Datagram Dhcp by_relay bytes }

-- ---- two turns of the office take the messages, and go well

pub record Asks (discovers requests : Turn) (s1 s2 : State) : Type 0 where
  pub discover : discovers.event ≡ event_at 1700000000 (said 1 [])
  pub request : requests.event ≡ event_at 1700000119 (said 3 selects)
  pub first : Step (start tables) discovers.event discovers.outcome (effect_of discovers s1)
  pub second : Step s1 requests.event requests.outcome (effect_of requests s2)
  pub well : GoesWell discovers × GoesWell requests

-- there are such turns
pub record SomeAsk : Type 0 where
  pub discovers : Turn
  pub requests : Turn
  pub s1 : State
  pub s2 : State
  pub asks : Asks discovers requests s1 s2

-- and in all such turns the device meets what the laws ask of it, and is bound
pub record MeetsAll (discovers requests : Turn) (s1 s2 : State) : Type 0 where
  pub good : Good tables
  pub discover : DeviceDiscovers (start tables) (heard 1 []) discovers
  pub offered : device_in s1.tables address
      ≡ Some (device_until (Offered modem device) 1700000120)
  pub waits : DeviceWaits modem device address s1 []
  pub never : NeverMayHaveMore 2 modem (start tables) (discovers ∷ [])
  pub request : DeviceRequests s1 (heard 3 selects) requests address
  pub same : request.known.modem ≡ discover.known.modem
  pub below : IsBelowLimit s1.tables (moment_of s1 requests) (heard 3 selects) request.known
  pub bound : device_in s2.tables address ≡ Some (device_until (Bound modem device) 1700086519)

abbrev pub AllCanBeMet : Type 0
AllCanBeMet =
    (discovers requests : Turn) (s1 s2 : State) → Asks discovers requests s1 s2
    → MeetsAll discovers requests s1 s2
