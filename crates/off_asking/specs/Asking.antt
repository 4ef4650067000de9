-- What a client's message says: its kind and the addresses that it names (RFC 2131 sections 3.1 and
-- 4.3; RFC 2132 sections 9.1, 9.6 and 9.7), and what the client and its relay say of the client
-- (CANN-DHCP-Reg; RFC 3046 section 3.2).
use Rattle.std.specs.Prelude.{ℕ, ◌==◌, Bool, true, false, ◌||◌, List, length, Option, Some, None, option_map, Result, Ok, Err, if◌then◌else◌}
use Rattle.std.specs.Int.{w32, from_be_bytes}
use Rattle.off_base.specs.declared.addresses.Ip4.{Ip4}
use Rattle.off_base.specs.declared.macs.Mac.{Mac}
use Rattle.off_base.specs.Parts.{Part, parts_in, bytes_of}
use Rattle.off_dhcp.specs.Datagram.{Received, mac_of_client, option_in}
use Rattle.off_docsis.specs.Cable.{first_of}
use Rattle.off_asking.specs.declared.forms.Named.{Named}
use Rattle.off_asking.specs.declared.forms.Named.TheVariants.{Absent, Malformed, At}
use Rattle.off_asking.specs.declared.forms.Form.{Form}
use Rattle.off_asking.specs.declared.forms.Form.TheVariants.{Selecting, InitReboot, Renewing, NoForm}

abbrev pub ip : ℕ → Ip4
ip number = record { 0 = number }

abbrev pub client : Received → Mac
client m = record { 0 = mac_of_client m }

-- the kinds of messages that the office serves
abbrev pub is_discover : Received → Bool
is_discover m = m.kind == 1

abbrev pub is_request : Received → Bool
is_request m = m.kind == 3

abbrev pub is_decline : Received → Bool
is_decline m = m.kind == 4

abbrev pub is_release : Received → Bool
is_release m = m.kind == 7

-- a client asks for an address, or gives one up
abbrev pub asks : Received → Bool
asks m = is_discover m || is_request m

abbrev pub gives_back : Received → Bool
gives_back m = is_decline m || is_release m

-- the address of an option; an option that names one has four bytes
abbrev pub named_by : Option (List ℕ) → Named
named_by None = Absent
named_by (Some value) = if length value == 4 then At (ip (from_be_bytes w32 value)) else Malformed

-- option 50, the requested address, and option 54, the server that is meant
abbrev pub named_address : Received → Named
named_address m = named_by (option_in 50 m.options)

abbrev pub named_server : Received → Named
named_server m = named_by (option_in 54 m.options)

abbrev pub at_address : Named → Option Ip4
at_address (At address) = Some address
at_address named = None

-- The forms of a REQUEST (RFC 2131 section 4.3.2, and the table of section 4.3.6), by options 50
-- and 54, whether ciaddr is 0, and ciaddr
abbrev pub form_by : Named → Named → Bool → Ip4 → Form
form_by (At address) (At server) true ciaddr = Selecting address
form_by (At address) Absent true ciaddr = InitReboot address
form_by Absent Absent false ciaddr = Renewing ciaddr
form_by address server none ciaddr = NoForm

abbrev pub form_of : Received → Form
form_of m = form_by (named_address m) (named_server m) (m.ciaddr == 0) (ip m.ciaddr)

abbrev pub is_formless : Form → Bool
is_formless NoForm = true
is_formless form = false

abbrev pub is_selecting : Form → Bool
is_selecting (Selecting address) = true
is_selecting form = false

abbrev pub is_renewing : Form → Bool
is_renewing (Renewing address) = true
is_renewing form = false

abbrev pub asked_by : Form → Option Ip4
asked_by (Selecting address) = Some address
asked_by (InitReboot address) = Some address
asked_by (Renewing address) = Some address
asked_by NoForm = None

-- the address for which a REQUEST asks, or that a DECLINE or a RELEASE gives back (RFC 2131
-- sections 4.3.3 and 4.3.4)
abbrev pub claimed : Received → Option Ip4
claimed m =
    if is_request m then asked_by (form_of m)
    else if is_decline m then at_address (named_address m)
    else Some (ip m.ciaddr)

-- ---- parts of options: of 43, what the client says of itself, and of 82, what the relay says of
-- it

abbrev pub vendor_parts : Received → Result (List Part) ℕ
vendor_parts m = parts_in true (bytes_of (option_in 43 m.options))

abbrev pub relay_parts : Received → Result (List Part) ℕ
relay_parts m = parts_in false (bytes_of (option_in 82 m.options))

-- the value of the first part with a code
abbrev pub value_in : ℕ → Result (List Part) ℕ → Option (List ℕ)
value_in code (Ok parts) = option_map (λ part. part.value) (first_of code parts)
value_in code (Err place) = None

-- the serial number of a modem (option 43, part 4), and the client behind a relay (option 82, part
-- 2, the remote identifier)
abbrev pub serial_number : Received → Option (List ℕ)
serial_number m = value_in 4 (vendor_parts m)

abbrev pub remote_identifier : Received → Option (List ℕ)
remote_identifier m = value_in 2 (relay_parts m)

-- the client that a relay names by the six bytes of its hardware address, where it names one so
abbrev pub mac : List ℕ → Mac
mac bytes = record { 0 = bytes }

abbrev pub six_bytes : Option (List ℕ) → Option Mac
six_bytes None = None
six_bytes (Some bytes) = if length bytes == 6 then Some (mac bytes) else None

abbrev pub relayed : Received → Option Mac
relayed m = six_bytes (remote_identifier m)
