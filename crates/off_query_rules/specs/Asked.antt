-- When a datagram is a relay's query for a lease, and what it asks (RFC 4388 sections 6.1 and 6.2).
use Rattle.std.specs.Prelude.{ℕ, ◌+◌, ◌==◌, Bool, true, false, not, ◌&&◌, List, length, Option, Some, None, is_some, is_none, slice_index, if◌then◌else◌, replicate}
use Rattle.std.specs.Int.{w32, from_be_bytes}
use Rattle.std.specs.List.{slice_range}
use Rattle.std.specs.Str.{bytes_eq}
use Rattle.off_base.specs.declared.addresses.Ip4.{Ip4}
use Rattle.off_base.specs.declared.macs.Mac.{Mac}
use Rattle.off_base.specs.Parts.{bytes_of}
use Rattle.off_dhcp.specs.Datagram.{has_head, options_in, option_in}
use Rattle.off_query_rules.specs.declared.questions.Question.{Question}
use Rattle.off_query_rules.specs.declared.questions.Question.TheVariants.{ByAddress, ByMac, Formless}

-- option 53 is the one byte 10, DHCPLEASEQUERY, and there is no option 52
abbrev pub says_query : List ℕ → Bool
says_query options =
    (length (bytes_of (option_in 53 options)) == 1)
    && ((slice_index (bytes_of (option_in 53 options)) 0 == 10)
    && is_none (option_in 52 options))

-- The head is that of any request of BOOTP: its hardware address isn't looked at, since a query by
-- address has none.
unfoldable pub is_query : List ℕ → Bool
is_query bytes = has_head bytes && says_query (options_in bytes)

-- a query is seen as its bytes
abbrev pub query_of : List ℕ → Option (List ℕ)
query_of bytes = if is_query bytes then Some bytes else None

-- ---- what it says

abbrev pub address_at : ℕ → List ℕ → Ip4
address_at place q = record { 0 = from_be_bytes w32 (slice_range q place (place + 4)) }

abbrev pub ciaddr_of : List ℕ → Ip4
ciaddr_of q = address_at 12 q

abbrev pub giaddr_of : List ℕ → Ip4
giaddr_of q = address_at 24 q

abbrev pub mac_of : List ℕ → Mac
mac_of q = record { 0 = slice_range q 28 34 }

-- by address: ciaddr has it, and there is no hardware address
abbrev pub is_by_address : List ℕ → Bool
is_by_address q =
    not ((ciaddr_of q).0 == 0) && ((slice_index q 1 == 0) && ((slice_index q 2 == 0)
    && bytes_eq (slice_range q 28 44) (replicate 16 0)))

-- by hardware address: that of an Ethernet client, and no address
abbrev pub is_by_mac : List ℕ → Bool
is_by_mac q = ((ciaddr_of q).0 == 0) && ((slice_index q 1 == 1) && (slice_index q 2 == 6))

-- a query by client identifier, option 61, isn't answered
abbrev pub has_client_identifier : List ℕ → Bool
has_client_identifier q = is_some (option_in 61 (options_in q))

abbrev pub question_of : List ℕ → Question
question_of q =
    if has_client_identifier q then Formless
    else if is_by_address q then ByAddress (ciaddr_of q)
    else if is_by_mac q then ByMac (mac_of q)
    else Formless

abbrev pub is_formless : Question → Bool
is_formless Formless = true
is_formless question = false

abbrev pub asks_by_address : Question → Bool
asks_by_address (ByAddress address) = true
asks_by_address question = false
