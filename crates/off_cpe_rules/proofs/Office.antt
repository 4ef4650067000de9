-- The office of the worked examples: a modem whose subscriber may have two devices behind it, the
-- pool of devices 10.128.0.10 to 10.128.0.20 behind the relay 10.128.0.1, and what devices say.
use Rattle.std.proofs.Common.{ℕ, ◌+◌, Bool, true, List, [], ◌∷◌, ◌++◌, replicate, pos, Option, Some, None, codes}
use Rattle.off_base.specs.declared.addresses.Ip4.{Ip4}
use Rattle.off_base.specs.declared.macs.Mac.{Mac}
use Rattle.off_defs.specs.declared.tables.Site.{Site}
use Rattle.off_defs.specs.declared.tables.Pool.{Pool}
use Rattle.off_defs.specs.declared.tables.Subscriber.{Subscriber}
use Rattle.off_defs.specs.declared.tables.DeviceHold.{DeviceHold}
use Rattle.off_defs.specs.declared.tables.DeviceHold.TheVariants.{Offered, Bound}
use Rattle.off_defs.specs.declared.tables.DeviceLease.{DeviceLease}
use Rattle.off_dhcp.specs.Datagram.{Received}
use Rattle.off_asking.specs.Asking.{ip}
use Rattle.off_cpe_rules.specs.declared.cases.DeviceCase.{DeviceCase}

abbrev pub site : Site
site = record { server = ip 0x0a000002; secret = codes "secret"; offset = pos 3600; lease = 86400; log = ip 0 }

abbrev pub pool : Pool
pool = record { first = ip 0x0a80000a; last = ip 0x0a800014; prefix = 24; router = ip 0x0a800001; relay = ip 0x0a800001 }

-- the address 10.128.0.N, and one in a pool behind another relay
abbrev pub address : ℕ → Ip4
address last = ip (0x0a800000 + last)

abbrev pub elsewhere : Ip4
elsewhere = ip 0x0a80010a

abbrev pub ann : Bool → Subscriber
ann active = record { active = active; cpes = 2; name = codes "Ann" }

abbrev pub mac : List ℕ → Mac
mac bytes = record { 0 = bytes }

abbrev pub modem : List ℕ
modem = 2 ∷ 0xaa ∷ 0xbb ∷ 0xcc ∷ 0xdd ∷ 0xee ∷ []

abbrev pub device : ℕ → List ℕ
device last = 2 ∷ 0 ∷ 0 ∷ 0 ∷ 0 ∷ last ∷ []

-- ---- what a device says: itself, or through the relay, which adds the modem

abbrev pub direct : ℕ → ℕ → ℕ → List ℕ → Received
direct kind last ciaddr options =
    record { kind = kind; xid = 0x11223344; flags = 0; ciaddr = ciaddr; giaddr = 0; hardware = device last ++ replicate 10 0; options = (53 ∷ 1 ∷ kind ∷ []) ++ options ++ (255 ∷ []) }

abbrev pub relayed_by : List ℕ
relayed_by = 82 ∷ 8 ∷ 2 ∷ 6 ∷ modem

abbrev pub through : ℕ → ℕ → ℕ → List ℕ → Received
through kind last ciaddr options =
    record (direct kind last ciaddr (options ++ relayed_by)) { giaddr = 0x0a800001 }

abbrev pub said : ℕ → ℕ → List ℕ → Received
said kind last options = through kind last 0 options

-- option 50 with 10.128.0.N, and option 54 with 10.0.0.N
abbrev pub asked : ℕ → List ℕ
asked last = 50 ∷ 4 ∷ 10 ∷ 128 ∷ 0 ∷ last ∷ []

abbrev pub meant : ℕ → List ℕ
meant last = 54 ∷ 4 ∷ 10 ∷ 0 ∷ 0 ∷ last ∷ []

-- ---- the rows by which a message is judged

abbrev pub case_by : Bool → Bool → Option Ip4 → ℕ → DeviceCase
case_by active online own others =
    record { pool = Some pool; subscriber = Some (ann active); is_online = online; site = Some site; own = own; others = others }

abbrev pub served : Option Ip4 → ℕ → DeviceCase
served own others = case_by true true own others

abbrev pub without_pool : DeviceCase → DeviceCase
without_pool c = record c { pool = None }

abbrev pub without_subscriber : DeviceCase → DeviceCase
without_subscriber c = record c { subscriber = None }

abbrev pub lease_by : DeviceHold → ℕ → DeviceLease
lease_by hold moment = record { hold = hold; expiry = record { 0 = moment } }

abbrev pub offered_to : ℕ → DeviceHold
offered_to last = Offered (mac modem) (mac (device last))

abbrev pub bound_to : ℕ → DeviceHold
bound_to last = Bound (mac modem) (mac (device last))
