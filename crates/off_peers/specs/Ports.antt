-- How many ports of one address the TFTP port hears. A client's address and port name its transfer
-- (RFC 1350, section 4), so these bound how many transfers an address may have at a time.
use Rattle.std.specs.Prelude.{ℕ, ◌+◌, ◌%◌, ◌==◌, Bool, ◌&&◌, ◌||◌, nat_le, nat_lt, List, [], ◌∷◌, ◌++◌, length, drop, if◌then◌else◌}
use Rattle.std.specs.List.{list_any, count_by, slice_set, slice_index_or}
use Rattle.off_base.specs.declared.addresses.Peer.{Peer}
use Rattle.off_peers.specs.declared.hearing.Opened.{Opened}

-- for so many seconds a port is open after the datagram that opened it
abbrev pub open_seconds : ℕ
open_seconds = 60

-- so many ports of one address are open at a time
abbrev pub most_ports : ℕ
most_ports = 4

-- of so many ports that were opened last it is known
abbrev pub most_known : ℕ
most_known = 64

-- a port of an address was opened less than a minute before this moment, and not after it
abbrev pub is_open_of : ℕ → ℕ → Opened → Bool
is_open_of address now opened =
    (opened.address == address) && nat_le opened.at now && nat_lt now (opened.at + open_seconds)

-- it is this very port
abbrev pub is_open_port : Peer → ℕ → Opened → Bool
is_open_port from now opened =
    is_open_of from.ip.0 now opened && (opened.port == from.port)

-- how many ports of an address are open
abbrev pub open_ports : ℕ → ℕ → List Opened → ℕ
open_ports address now known = count_by (is_open_of address now) known

-- who sends from a port that is open is heard
abbrev pub has_open_port : Peer → ℕ → List Opened → Bool
has_open_port from now known = list_any (is_open_port from now) known

-- and who sends from another port of an address, as long as fewer are open than may be
abbrev pub may_open : Peer → ℕ → List Opened → Bool
may_open from now known = nat_lt (open_ports from.ip.0 now known) most_ports

abbrev pub is_heard : Peer → ℕ → List Opened → Bool
is_heard from now known = has_open_port from now known || may_open from now known

-- where as many are known as can be, the one that was opened first is forgotten
abbrev pub with_room : List Opened → List Opened
with_room known = if nat_lt (length known) most_known then known else drop 1 known

-- what is known after a datagram: a port that it opened is the last
abbrev pub known_after : Peer → ℕ → List Opened → List Opened
known_after from now known =
    if has_open_port from now known then known
    else (if may_open from now known
    then with_room known ++ record { address = from.ip.0; port = from.port; at = now } ∷ []
    else known)

-- ---- the table

-- it has so many rows
abbrev pub row_count : ℕ
row_count = 512

-- the row of an address
abbrev pub row_of : ℕ → ℕ
row_of address = address % row_count

-- what is known in the row of an address
abbrev pub known_of : ℕ → List (List Opened) → List Opened
known_of address rows = slice_index_or rows (row_of address) []

-- the table after a datagram: no other row changes
abbrev pub table_after : Peer → ℕ → List (List Opened) → List (List Opened)
table_after from now rows =
    slice_set rows (row_of from.ip.0) (known_after from now (known_of from.ip.0 rows))
