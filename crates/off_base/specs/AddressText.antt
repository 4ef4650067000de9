-- Texts of addresses: an EUI-48 (a MAC address, IEEE 802) in hexadecimal digits, and an IPv4
-- address in dotted decimal.
use Rattle.std.specs.Prelude.{ℕ, ◌+◌, ◌*◌, ◌/◌, ◌%◌, ◌^◌, ◌==◌, Bool, ◌&&◌, nat_lt, List, [], ◌∷◌, length, map, filter, Option, Some, None, if◌then◌else◌}
use Rattle.std.specs.List.{join_with_byte, slice_split, list_any}
use Rattle.std.specs.Fmt.{decimal}
use Rattle.std.specs.Result.{result_ok}
use Rattle.std.specs.Str.{bytes_eq}
use Rattle.hex.specs.Hex.{encode_lower, decode_of, is_hex_digit}
use Rattle.off_base.specs.Number.{number_of}

-- the one text that the office writes for a MAC: its six bytes as twelve digits in lower case
abbrev pub mac_text_of : List ℕ → List ℕ
mac_text_of bytes = encode_lower bytes

-- digits in groups of two
abbrev pub pairs : List ℕ → List (List ℕ)
pairs [] = []
pairs (a ∷ []) = []
pairs (a ∷ b ∷ more) = (a ∷ b ∷ []) ∷ pairs more

-- digits in groups of four
abbrev pub fours : List ℕ → List (List ℕ)
fours (a ∷ b ∷ c ∷ d ∷ more) = (a ∷ b ∷ c ∷ d ∷ []) ∷ fours more
fours _ = []

-- how the digits of a MAC may stand in a text: bare, in pairs with `:` or with `-` between all
-- pairs, or in fours with `.` between all groups
abbrev pub mac_forms : List ℕ → List (List ℕ)
mac_forms digits =
    digits ∷ join_with_byte 58 (pairs digits) ∷ join_with_byte 45 (pairs digits)
    ∷ join_with_byte 46 (fours digits) ∷ []

-- the hexadecimal digits of a text, in either case
abbrev pub digits_in : List ℕ → List ℕ
digits_in text = filter is_hex_digit text

-- a text that has twelve hexadecimal digits, and has them in one of these forms
abbrev pub is_mac_text : List ℕ → Bool
is_mac_text text =
    (length (digits_in text) == 12)
    && list_any (λ form. bytes_eq text form) (mac_forms (digits_in text))

-- the six bytes of such a text, two digits for each
unfoldable pub mac_of : List ℕ → Option (List ℕ)
mac_of text = if is_mac_text text then result_ok (decode_of (digits_in text)) else None

-- the four bytes of an IPv4 address, the most significant first
abbrev pub ip_bytes : ℕ → List ℕ
ip_bytes a = (a / 2 ^ 24 % 256) ∷ (a / 2 ^ 16 % 256) ∷ (a / 2 ^ 8 % 256) ∷ (a % 256) ∷ []

-- dotted decimal: the four bytes in decimal without leading zeros, with `.` between them
unfoldable pub ip_text_of : ℕ → List ℕ
ip_text_of a = join_with_byte 46 (map decimal (ip_bytes a))

-- a number of 0 to 255 as it is written: in decimal digits, without leading zeros
abbrev pub octet_of : List ℕ → Option ℕ
octet_of text =
    if nat_lt (number_of text) 256 && bytes_eq (decimal (number_of text)) text
    then Some (number_of text) else None

-- the address of four such numbers
abbrev pub address_of : List (Option ℕ) → Option ℕ
address_of (Some first ∷ Some second ∷ Some third ∷ Some fourth ∷ []) =
    Some (((first * 256 + second) * 256 + third) * 256 + fourth)
address_of _ = None

-- the address whose text this is: four numbers of 0 to 255 between dots, each as it is written
unfoldable pub ip_of : List ℕ → Option ℕ
ip_of text = address_of (map octet_of (slice_split (λ c. c == 46) text))
