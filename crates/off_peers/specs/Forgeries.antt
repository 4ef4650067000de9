-- Messages to the DHCP port that say they are of a client, and come from elsewhere.
use Rattle.std.specs.Prelude.{ℕ, ◌==◌, Bool, ◌&&◌, not, nat_le, List, length}
use Rattle.std.specs.Int.{from_be_bytes, w32}
use Rattle.std.specs.List.{slice_range}

-- the address that the client has (RFC 2131, section 2, figure 1: ciaddr), 0 for none
abbrev pub client_address : List ℕ → ℕ
client_address bytes = from_be_bytes w32 (slice_range bytes 12 16)

-- the address of the relay (giaddr there), 0 for none
abbrev pub relay_address : List ℕ → ℕ
relay_address bytes = from_be_bytes w32 (slice_range bytes 24 28)

-- A client that has an address, and that no relay speaks for, sends from that address: it renews
-- by unicast (RFC 2131, section 4.3.2, RENEWING) and gives back by unicast (section 4.4.6), and is
-- answered at ciaddr, which the server trusts. A datagram of fewer bytes than come before the
-- options (figure 1 there) and their cookie (section 3) is no message
abbrev pub is_forged : List ℕ → ℕ → Bool
is_forged bytes source =
    nat_le 240 (length bytes) && (relay_address bytes == 0)
    && not (client_address bytes == 0)
    && not (client_address bytes == source)
