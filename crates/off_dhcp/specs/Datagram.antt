-- A DHCP message as bytes (RFC 2131 section 2, figure 1; options by RFC 2132 and RFC 3396), and
-- when a datagram is none that the office reads.
use Rattle.std.specs.Prelude.{ℕ, ◌+◌, ◌==◌, Bool, true, ◌&&◌, not, List, [], ◌∷◌, ◌++◌, length, nat_lt, nat_le, take, drop, slice_index, if◌then◌else◌, Option, Some, None, is_some, Result, Ok, Err, is_ok}
use Rattle.std.specs.Int.{w16, w32, from_be_bytes}
use Rattle.std.specs.List.{slice_range}
use Rattle.std.specs.Option.{option_map}
use Rattle.std.specs.Result.{result_err}
use Rattle.std.specs.Str.{bytes_eq}
use Rattle.off_base.specs.Choices.{when, first_there}
use Rattle.off_base.specs.Parts.{IsReading, parts_in, joined, bytes_of}
use Rattle.off_dhcp.specs.declared.faults.DhcpFault.{DhcpFault}
use Rattle.off_dhcp.specs.declared.faults.DhcpFault.TheVariants.{Short, NotRequest, Hardware, Cookie, OptionCut, NoType, Overload, Long}

-- the four bytes in front of the options (RFC 2131 section 3)
abbrev pub magic_cookie : List ℕ
magic_cookie = 99 ∷ 130 ∷ 83 ∷ 99 ∷ []

-- what stands behind the fixed part and the cookie
abbrev pub options_in : List ℕ → List ℕ
options_in bytes = drop 240 bytes

-- the one reading of the options is what the grammar says of them
abbrev pub ReadsOptions : List ℕ → Type 0
ReadsOptions options = IsReading true options (parts_in true options)

-- the joined value of all options of one code
abbrev pub option_in : ℕ → List ℕ → Option (List ℕ)
option_in code options = joined code (parts_in true options)

-- ---- a head: the fixed part of a request and the cookie, and options of which none passes the end

abbrev pub has_fixed_part : List ℕ → Bool
has_fixed_part bytes =
    nat_le 240 (length bytes) && nat_le (length bytes) 1500 && (slice_index bytes 0 == 1)
    && bytes_eq (slice_range bytes 236 240) magic_cookie

abbrev pub has_head : List ℕ → Bool
has_head bytes = has_fixed_part bytes && is_ok (parts_in true (options_in bytes))

abbrev pub head_of : List ℕ → Option (List ℕ)
head_of bytes = if has_head bytes then Some bytes else None

-- ---- what the office reads of a message

pub record Received : Type 0 where
  pub kind : ℕ  -- option 53
  pub xid : ℕ
  pub flags : ℕ
  pub ciaddr : ℕ
  pub giaddr : ℕ
  pub hardware : List ℕ  -- chaddr, all its 16 bytes
  pub options : List ℕ

-- the first six bytes of chaddr are the address of an Ethernet client
abbrev pub mac_of_client : Received → List ℕ
mac_of_client m = take 6 m.hardware

abbrev pub received : List ℕ → Received
received bytes = record {
  kind = slice_index (bytes_of (option_in 53 (options_in bytes))) 0;
  xid = from_be_bytes w32 (slice_range bytes 4 8);
  flags = from_be_bytes w16 (slice_range bytes 10 12);
  ciaddr = from_be_bytes w32 (slice_range bytes 12 16);
  giaddr = from_be_bytes w32 (slice_range bytes 24 28);
  hardware = slice_range bytes 28 44;
  options = options_in bytes;
}

-- ---- the faults, in the order in which they are told

abbrev pub fixed_faults : List ℕ → List (Option DhcpFault)
fixed_faults bytes =
    when (nat_lt (length bytes) 240) Short
    ∷ when (nat_lt 1500 (length bytes)) Long
    ∷ when (not (slice_index bytes 0 == 1)) NotRequest
    ∷ when (not ((slice_index bytes 1 == 1) && (slice_index bytes 2 == 6))) Hardware
    ∷ when (not (bytes_eq (slice_range bytes 236 240) magic_cookie)) Cookie
    ∷ []

abbrev pub option_faults : List ℕ → List (Option DhcpFault)
option_faults options =
    option_map OptionCut (option_map (λ place. place + 240) (result_err (parts_in true options)))
    ∷ when (not (length (bytes_of (option_in 53 options)) == 1)) NoType
    ∷ when (is_some (option_in 52 options)) Overload
    ∷ []

unfoldable pub message_fault : List ℕ → Option DhcpFault
message_fault bytes = first_there (fixed_faults bytes ++ option_faults (options_in bytes))

abbrev pub received_unless : Option DhcpFault → Received → Result Received DhcpFault
received_unless None m = Ok m
received_unless (Some fault) m = Err fault

-- what a datagram says, or its first fault
abbrev pub message_of : List ℕ → Result Received DhcpFault
message_of bytes = received_unless (message_fault bytes) (received bytes)
