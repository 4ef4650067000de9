-- TFTP packets as clients send them (RFC 1350 section 5; options by RFC 2347 section 2, of which
-- the block size is taken, RFC 2348, and the file's length and the time between resends, RFC 2349).
use Rattle.std.specs.Prelude.{ℕ, ◌-◌, ◌==◌, Bool, false, ◌||◌, List, [], ◌∷◌, length, take, codes, nat_le, nat_lt, find, Option, Some, None, is_some, option_map, option_and_then, Result, Ok, Err, if◌then◌else◌}
use Rattle.std.specs.List.{slice_split}
use Rattle.std.specs.Int.{w16, from_be_bytes}
use Rattle.std.specs.Str.{str_eq_ignore_ascii_case}
use Rattle.off_base.specs.Number.{is_number_text, number_read}
use Rattle.off_packets.specs.declared.packets.Options.{Options}
use Rattle.off_packets.specs.declared.packets.Packet.{Packet}
use Rattle.off_packets.specs.declared.packets.Packet.TheVariants as packet
use Rattle.off_packets.specs.declared.faults.PacketFault.{PacketFault}
use Rattle.off_packets.specs.declared.faults.PacketFault.TheVariants as fault

-- What a packet says: a file is asked for by its name, with options; a file is offered; a packet of
-- this number has come; the client gives up; or something else
pub data Meant : Type 0 where
  Reads : List ℕ → Options → Meant
  Writes : Meant
  Acknowledges : ℕ → Meant
  GivesUp : Meant
  IsOther : Meant

-- what one says that lends its name
abbrev pub meant_by : Packet → Meant
meant_by (packet.Read name options) = Reads name.now options
meant_by packet.Write = Writes
meant_by (packet.Ack number) = Acknowledges number
meant_by packet.Error = GivesUp
meant_by packet.Other = IsOther

-- a packet has at most so many bytes. The limit is this office's own
abbrev pub packet_limit : ℕ
packet_limit = 1500

-- ---- a read request: texts, each ended by a zero byte. They are the pieces between zeros without
-- the last one, behind which there is no zero
abbrev pub is_zero : ℕ → Bool
is_zero b = b == 0

abbrev pub all_but_last : List (List ℕ) → List (List ℕ)
all_but_last pieces = take (length pieces - 1) pieces

abbrev pub ended_texts : List ℕ → List (List ℕ)
ended_texts bytes = all_but_last (slice_split is_zero bytes)

-- options are pairs of a name and a value; a name without a value is none
abbrev pub option_pairs : List (List ℕ) → List (List ℕ × List ℕ)
option_pairs (name ∷ value ∷ texts) = (name, value) ∷ option_pairs texts
option_pairs texts = []

-- an option of this name, in any case
abbrev pub is_named : List ℕ → List ℕ × List ℕ → Bool
is_named name named = str_eq_ignore_ascii_case named.0 name

-- the value of the first option of a name: that one counts, also where it's as if it weren't there
abbrev pub value_of : List ℕ → List (List ℕ) → Option (List ℕ)
value_of name texts = option_map (λ named. named.1) (find (is_named name) (option_pairs texts))

-- a number in no more than so many decimal digits; a value of another form is as if the option
-- weren't there
abbrev pub short_number : ℕ → ℕ → List ℕ → Option ℕ
short_number digits most value =
    if nat_le (length value) digits then number_read most value else None

abbrev pub at_least : ℕ → ℕ → Option ℕ
at_least least number = if nat_le least number then Some number else None

-- a size of blocks is 8 to 65464 (RFC 2348), in 1 to 5 digits
abbrev pub size_read : List ℕ → Option ℕ
size_read value = option_and_then (at_least 8) (short_number 5 65464 value)

-- a time between resends is 1 to 255 seconds (RFC 2349), in 1 to 3 digits
abbrev pub seconds_read : List ℕ → Option ℕ
seconds_read value = option_and_then (at_least 1) (short_number 3 255 value)

-- The file's length is asked for by a number, which a client sends as 0 (RFC 2349): here it's any
-- one of 1 to 20 digits.
abbrev pub asks_length : Option (List ℕ) → Bool
asks_length None = false
asks_length (Some value) = is_number_text value

abbrev pub size_asked : List (List ℕ) → Option ℕ
size_asked texts = option_and_then size_read (value_of (codes "blksize") texts)

abbrev pub length_asked : List (List ℕ) → Bool
length_asked texts = asks_length (value_of (codes "tsize") texts)

abbrev pub seconds_asked : List (List ℕ) → Option ℕ
seconds_asked texts = option_and_then seconds_read (value_of (codes "timeout") texts)

-- each option is read by itself
abbrev pub options_asked : List (List ℕ) → Options
options_asked texts = record {
  blksize = size_asked texts;
  tsize = length_asked texts;
  timeout = seconds_asked texts;
}

-- an option was read that is to be told (RFC 2347 section 2)
abbrev pub has_option : Options → Bool
has_option asked = is_some asked.blksize || (asked.tsize || is_some asked.timeout)

abbrev pub no_options : Options
no_options = record { blksize = None; tsize = false; timeout = None }

-- a size of blocks alone is asked for
abbrev pub only_size : ℕ → Options
only_size size = record no_options { blksize = Some size }

-- what a packet's options ask for
abbrev pub options_by : Result Meant PacketFault → Options
options_by (Ok (Reads name asked)) = asked
options_by other = no_options

-- a name and a mode, of which only `octet` is served (RFC 1350 section 1), and options
abbrev pub request_of : List (List ℕ) → Result Meant PacketFault
request_of (name ∷ mode ∷ texts) =
    if str_eq_ignore_ascii_case mode (codes "octet") then Ok (Reads name (options_asked texts))
    else Err fault.Mode
request_of texts = Err fault.Form

-- ---- an acknowledgement: the number of the packet that came
abbrev pub two_byte_number : ℕ → ℕ → ℕ
two_byte_number high low = from_be_bytes w16 (high ∷ low ∷ [])

abbrev pub acknowledgement_of : List ℕ → Result Meant PacketFault
acknowledgement_of (high ∷ low ∷ rest) = Ok (Acknowledges (two_byte_number high low))
acknowledgement_of bytes = Err fault.Form

-- ---- a packet: two bytes tell its kind
abbrev pub packet_by : ℕ → List ℕ → Result Meant PacketFault
packet_by code bytes =
    if code == 1 then request_of (ended_texts bytes)
    else if code == 2 then Ok Writes
    else if code == 4 then acknowledgement_of bytes
    else if code == 5 then Ok GivesUp
    else Ok IsOther

abbrev pub short_packet_of : List ℕ → Result Meant PacketFault
short_packet_of (high ∷ low ∷ bytes) = packet_by (two_byte_number high low) bytes
short_packet_of bytes = Err fault.Form

unfoldable pub packet_of : List ℕ → Result Meant PacketFault
packet_of bytes =
    if nat_lt packet_limit (length bytes) then Err fault.Form else short_packet_of bytes
