-- Where datagrams come from that no client sent.
use Rattle.std.specs.Prelude.{◌≡◌, ℕ, ◌+◌, ◌-◌, ◌*◌, ◌%◌, ◌^◌, ◌==◌, ◌<◌, ◌≤◌, Bool, ◌&&◌, ◌||◌, nat_le, List, [], ◌∷◌, length, ◌⊎◌, Contains}
use Rattle.std.specs.Int.{from_be_bytes, w32}
use Rattle.off_base.specs.declared.addresses.Peer.{Peer}
use Rattle.off_defs.specs.declared.events.Service.{Service}
use Rattle.off_defs.specs.declared.events.Service.TheVariants.{Dhcp, Time, Tftp}
use Rattle.off_peers.specs.declared.reflecting.OwnPorts.{OwnPorts}

-- port 0, which nobody has, and the ports of services that answer whatever comes: echo (RFC 862),
-- active users (RFC 866), daytime (RFC 867), quote of the day (RFC 865), chargen (RFC 864) and time
-- (RFC 868)
abbrev pub AnswersByItself : ℕ → Type 0
AnswersByItself port = Contains (0 ∷ 7 ∷ 11 ∷ 13 ∷ 17 ∷ 19 ∷ 37 ∷ []) port

-- an address of 0.0.0.0/8 or 224.0.0.0/4, or 255.255.255.255 (RFC 6890, RFC 5771)
abbrev pub IsNoClient : ℕ → Type 0
IsNoClient address =
    (address < 2 ^ 24)
    ⊎ ((224 * 2 ^ 24 ≤ address × address < 240 * 2 ^ 24) ⊎ (address ≡ 4294967295))

-- DHCP is answered to fixed ports (RFC 2131, section 4.1); a time or TFTP client has a port of its
-- own choice, which is none of a service that answers it
abbrev pub IsReflection : Service → Peer → OwnPorts → Type 0
IsReflection Dhcp from own = ⊥
IsReflection Time from own =
    AnswersByItself from.port
    ⊎ (Contains (67 ∷ 68 ∷ 69 ∷ own.dhcp ∷ own.time ∷ own.tftp ∷ []) from.port
    ⊎ IsNoClient from.ip.0)
IsReflection Tftp from own =
    AnswersByItself from.port ⊎ Contains (own.dhcp ∷ own.time ∷ []) from.port

-- a moment on the clock of RFC 868, in seconds since 1900, which begin anew after 2^32
abbrev pub clock_at : ℕ → ℕ
clock_at now = (now % 2 ^ 32 + 2208988800) % 2 ^ 32

-- how many seconds that clock goes from one time to another
abbrev pub seconds_from : ℕ → ℕ → ℕ
seconds_from one other = (other + (2 ^ 32 - one)) % 2 ^ 32

-- two times that lie within a day of one another
abbrev pub is_near : ℕ → ℕ → Bool
is_near one other =
    nat_le (seconds_from one other) 86400 || nat_le (seconds_from other one) 86400

-- what a time service answers: four bytes that tell a time near to this moment
abbrev pub is_time_answer : List ℕ → ℕ → Bool
is_time_answer datagram now =
    (length datagram == 4) && is_near (clock_at now) (from_be_bytes w32 datagram)
