-- What a modem of the drill sends: a DISCOVER and a selecting REQUEST through its relay (RFC 2131,
-- section 3.1), a read request for its file in blocks of 44 bytes (RFC 1350, section 5; RFC 2348),
-- and acknowledgements.
use Rattle.std.specs.Prelude.{ℕ, List, [], ◌∷◌, ◌++◌, codes}
use Rattle.std.specs.Int.{w16, to_be_bytes}
use Rattle.off_base.specs.declared.addresses.Peer.{Peer}
use Rattle.off_dhcp.specs.Datagram.{magic_cookie}
use Rattle.off_dhcp.specs.Reply.{zeros, four, option}
use Rattle.off_file_rules.specs.Name.{name_of}
use Rattle.off_drill_rules.specs.Rows.{site, relay, mac, address}

abbrev pub peer : ℕ → ℕ → Peer
peer number port = record { ip = record { 0 = number }; port = port }

-- a relay sends from the server's port; a modem has a port of its own for its file
abbrev pub by_relay : Peer
by_relay = peer relay.0 67

abbrev pub by_modem : ℕ → Peer
by_modem i = peer (address i).0 5000

-- a BOOTREQUEST over Ethernet that names its number, its relay and its client alone, and the cookie
abbrev pub fixed_part : ℕ → List ℕ
fixed_part i =
    (1 ∷ 1 ∷ 6 ∷ 0 ∷ []) ++ four i ++ zeros 16 ++ four relay.0 ++ (mac i).0 ++ zeros 202
    ++ magic_cookie

-- option 60: it is a cable modem; option 82: the relay names it by its remote identifier
abbrev pub modem_options : ℕ → List ℕ
modem_options i = option 60 (codes "docsis3.1:") ++ option 82 (option 2 (mac i).0) ++ (255 ∷ [])

unfoldable pub discover : ℕ → List ℕ
discover i = fixed_part i ++ option 53 (1 ∷ []) ++ modem_options i

-- it selects the address that it was offered, of the server that offered it
unfoldable pub request : ℕ → List ℕ
request i =
    fixed_part i ++ option 53 (3 ∷ []) ++ option 50 (four (address i).0)
    ++ option 54 (four site.server.0) ++ modem_options i

-- the name of its file, as the office gives it
abbrev pub name : ℕ → List ℕ
name i = name_of site.secret (mac i) (address i)

abbrev pub block_size : ℕ
block_size = 44

abbrev pub behind_name : List ℕ
behind_name = 0 ∷ (codes "octet" ++ 0 ∷ (codes "blksize" ++ 0 ∷ (codes "44" ++ 0 ∷ [])))

unfoldable pub read_request : ℕ → List ℕ
read_request i = (0 ∷ 1 ∷ []) ++ name i ++ behind_name

-- the packet of this number has come
unfoldable pub acknowledgement : ℕ → List ℕ
acknowledgement number = (0 ∷ 4 ∷ []) ++ to_be_bytes w16 number
