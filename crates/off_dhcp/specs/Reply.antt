-- Replies to clients, byte for byte (RFC 2131 sections 2 and 4.3, RFC 2132 for the options).
use Rattle.std.specs.Prelude.{ℕ, ◌+◌, ◌-◌, ◌*◌, ◌/◌, ◌^◌, ◌==◌, max, bit_or, List, [], ◌∷◌, ◌++◌, length, replicate, if◌then◌else◌, Option, Some, None}
use Rattle.std.specs.Int.{w16, w32, to_be_bytes, cast_unsigned}
use Rattle.std.specs.List.{flat_map, range_with_len, slice_range}
use Rattle.off_dhcp.specs.Datagram.{Received, magic_cookie, option_in}
use Rattle.off_dhcp.specs.declared.offers.Offer.{Offer}

abbrev pub zeros : ℕ → List ℕ
zeros count = replicate count 0

abbrev pub four : ℕ → List ℕ
four number = to_be_bytes w32 number

-- the fixed part and the cookie: op 2 (BOOTREPLY), Ethernet, no hops, no secs, an empty sname, and
-- file with a name
unfoldable pub head : Received → ℕ → ℕ → ℕ → ℕ → List ℕ → List ℕ
head m flags ciaddr yiaddr siaddr name =
    (2 ∷ 1 ∷ 6 ∷ 0 ∷ []) ++ four m.xid ++ (0 ∷ 0 ∷ []) ++ to_be_bytes w16 flags
    ++ four ciaddr ++ four yiaddr ++ four siaddr ++ four m.giaddr ++ m.hardware
    ++ zeros 64 ++ name ++ zeros (128 - length name) ++ magic_cookie

-- one option
abbrev pub option : ℕ → List ℕ → List ℕ
option code value = code ∷ length value ∷ value

-- how many options a value of so many bytes takes: each but the last has 255 of them, and there is
-- one at least
abbrev pub pieces : ℕ → ℕ
pieces len = max 1 ((len + 254) / 255)

abbrev pub piece : List ℕ → ℕ → List ℕ
piece value k = slice_range value (255 * k) (255 * k + 255)

-- the first so many options 82 with the pieces of a value
abbrev pub relayed : List ℕ → ℕ → List ℕ
relayed value count = flat_map (λ k. option 82 (piece value k)) (range_with_len 0 count)

-- option 82 of the request, sent back whole (RFC 3046 section 2.2, RFC 3396 section 6)
unfoldable pub relay_options : Option (List ℕ) → List ℕ
relay_options None = []
relay_options (Some value) = relayed value (pieces (length value))

-- a reply has 300 bytes at least, as BOOTP has (RFC 1542 section 2.1)
abbrev pub padded : List ℕ → List ℕ
padded bytes = bytes ++ zeros (300 - length bytes)

-- a NAK behind a relay asks for a broadcast (RFC 2131 section 4.3.2)
abbrev pub nak_flags : Received → ℕ
nak_flags m = if m.giaddr == 0 then m.flags else bit_or m.flags 0x8000

-- a NAK: no address, no server, no name; options 53, 54 and 82
unfoldable pub nak_bytes : Received → ℕ → List ℕ
nak_bytes m server =
    padded (head m (nak_flags m) 0 0 0 [] ++ option 53 (6 ∷ []) ++ option 54 (four server)
    ++ relay_options (option_in 82 m.options) ++ (255 ∷ []))

-- the mask of a prefix: so many ones, and zeros behind them
abbrev pub mask : ℕ → ℕ
mask prefix = 2 ^ 32 - 2 ^ (32 - prefix)

-- the address that an ACK confirms to its client; an OFFER has none there
abbrev pub confirmed : Received → Offer → ℕ
confirmed m o = if o.kind == 5 then m.ciaddr else 0

abbrev pub log_option : ℕ → List ℕ
log_option log = if log == 0 then [] else option 7 (four log)

-- an OFFER or an ACK
unfoldable pub reply_bytes : Received → Offer → List ℕ
reply_bytes m o =
    padded (head m m.flags (confirmed m o) o.yiaddr.0 o.site.server.0 o.name
    ++ option 53 (o.kind ∷ [])
    ++ option 54 (four o.site.server.0)
    ++ option 51 (four o.site.lease)
    ++ option 58 (four (o.site.lease / 2))
    ++ option 59 (four (7 * o.site.lease / 8))
    ++ option 1 (four (mask o.pool.prefix))
    ++ option 3 (four o.pool.router.0)
    ++ option 2 (four (cast_unsigned w32 o.site.offset))
    ++ option 4 (four o.site.server.0)
    ++ log_option o.site.log.0
    ++ relay_options (option_in 82 m.options)
    ++ (255 ∷ []))
