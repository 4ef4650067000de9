-- Which datagrams the link hands on, and as what.
use Rattle.std.specs.Prelude.{◌≡◌, ℕ, ◌==◌, Bool, not, ◌||◌, ◌&&◌, List, [], ◌∷◌, if◌then◌else◌}
use Rattle.std.specs.List.{starts_with}
use Rattle.std.specs.Net.Addr.{IsIpv4OfBits}
use Rattle.std.specs.Net.Socket.{v4_ip, v4_port}
use Rattle.std.specs.declared.net.socket_addr.SocketAddr.{SocketAddr}
use Rattle.std.specs.declared.net.socket_addr.SocketAddr.TheVariants.{V4, V6}
use Rattle.off_base.specs.declared.addresses.Ip4.{Ip4}
use Rattle.off_base.specs.declared.addresses.Peer.{Peer}
use Rattle.off_defs.specs.declared.events.Service.{Service}
use Rattle.off_defs.specs.declared.events.Service.TheVariants.{Dhcp, Time, Tftp}
use Rattle.off_defs.specs.declared.events.What.TheVariants.{Datagram}
use Rattle.off_peers.specs.Forgeries.{is_forged}
use Rattle.off_peers.specs.Ports.{is_heard, known_of, table_after}
use Rattle.off_peers.specs.Reflections.{is_time_answer}
use Rattle.off_peers.specs.declared.hearing.Opened.{Opened}
use Rattle.off_host.specs.declared.datagrams.Asked.{Asked}
use Rattle.off_host.specs.declared.datagrams.Asked.TheVariants.{Gave, Quiet, Dropped}

-- A datagram that is no reflection is of the service, but for a forged one of DHCP, and for what a
-- time service answers, which no client sends (RFC 868); an acknowledgement of TFTP (RFC 1350,
-- section 5) is taken whatever time it tells
abbrev pub is_of_service : Service → Peer → List ℕ → ℕ → Bool
is_of_service Dhcp from datagram now = not (is_forged datagram from.ip.0)
is_of_service Time from datagram now = not (is_time_answer datagram now)
is_of_service Tftp from datagram now =
    starts_with (λ a b. a == b) datagram (0 ∷ 4 ∷ []) || not (is_time_answer datagram now)

-- it is taken; to the TFTP port only where that hears its sender's port, by the rows of its table
abbrev pub is_taken : Service → Peer → List ℕ → ℕ → List (List Opened) → Bool
is_taken Dhcp from datagram now rows = is_of_service Dhcp from datagram now
is_taken Time from datagram now rows = is_of_service Time from datagram now
is_taken Tftp from datagram now rows =
    is_of_service Tftp from datagram now && is_heard from now (known_of from.ip.0 rows)

-- the rows of that table after it
abbrev pub rows_after : Service → Peer → List ℕ → ℕ → List (List Opened) → List (List Opened)
rows_after Dhcp from datagram now rows = rows
rows_after Time from datagram now rows = rows
rows_after Tftp from datagram now rows =
    if is_of_service Tftp from datagram now then table_after from now rows else rows

-- it becomes an event with all its bytes, or memory was wanted and it's dropped
abbrev pub GivesDatagram : Service → Peer → List ℕ → Asked → Type 0
GivesDatagram service from datagram (Gave what) = what ≡ Datagram service from datagram
GivesDatagram service from datagram Quiet = ⊥
GivesDatagram service from datagram Dropped = Unit {0}

-- an address and a port as std has them
abbrev pub IsSocketAddress : SocketAddr → Ip4 → ℕ → Type 0
IsSocketAddress (V4 address) ip port =
    IsIpv4OfBits (v4_ip address) ip.0 × (v4_port address ≡ port)
IsSocketAddress (V6 address) ip port = ⊥
