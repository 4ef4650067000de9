-- How many calls of the keeper a datagram may need. A read request needs the site of its address's
-- hub, the lease of the address, the modem, the subscriber, the class, and eight add-ons; the
-- acknowledgement of a block that isn't the last needs the first three, and none where it's
-- remembered that the tables agree; all others none.
use Rattle.std.specs.Prelude.{◌≡◌, ℕ, ◌==◌, Bool, true, false, not, List, Option, Some, None, Result, Ok, Err, if◌then◌else◌}
use Rattle.std.specs.FinMap as map
use Rattle.off_base.specs.declared.addresses.Peer.{Peer}
use Rattle.off_base.specs.declared.addresses.Ip4.{Ip4}
use Rattle.off_defs.specs.State.{Tables, Transfer}
use Rattle.off_account_rules.specs.Rows.{passes, hub_of}
use Rattle.off_outside.specs.KeeperSeen.{KeeperSeen}
use Rattle.off_outside.specs.KeeperCalls.{Spent}
use Rattle.off_transfer_rules.specs.View.{View, view}
use Rattle.off_tftp.specs.Agreements.{Slots, is_remembered}
use Rattle.off_tftp.specs.Seen.{view_at, names_file}
use Rattle.off_tftp.specs.Stages.{repeats}
use Rattle.off_packets.specs.Packets.{Meant, Reads, Writes, Acknowledges, GivesUp, IsOther, packet_of}
use Rattle.off_transfer_rules.specs.Steps.{is_repeated}
use Rattle.off_transfer_rules.specs.Transfers.{Transfers, is_at_last}
use Rattle.off_packets.specs.declared.faults.PacketFault.{PacketFault}

abbrev pub reading_calls : List ℕ → Option Transfer → ℕ
reading_calls bytes None = 13
reading_calls bytes (Some x) = if is_repeated bytes x then 0 else 13

abbrev pub acknowledgement_calls : ℕ → Option Transfer → ℕ
acknowledgement_calls number None = 0
acknowledgement_calls number (Some x) =
    if number == x.sent then (if is_at_last x then 0 else 3) else 0

abbrev pub calls_by : List ℕ → Option Transfer → Result Meant PacketFault → ℕ
calls_by bytes live (Ok (Reads name asked)) = reading_calls bytes live
calls_by bytes live (Ok (Acknowledges number)) = acknowledgement_calls number live
calls_by bytes live (Ok Writes) = 0
calls_by bytes live (Ok GivesUp) = 0
calls_by bytes live (Ok IsOther) = 0
calls_by bytes live (Err fault) = 0

abbrev pub datagram_calls : Transfers → Peer → List ℕ → ℕ
datagram_calls transfers from bytes = calls_by bytes (map.get transfers from) (packet_of bytes)

-- A request for a file by another name than its modem's asks three calls at most, whatever else.
abbrev pub FewWhereUnnamed : ℕ → Option ℕ → Ip4 → List ℕ → KeeperSeen → KeeperSeen → Type 0
FewWhereUnnamed now hub ip name old new =
    (t : Tables) → old.tables t → names_file now ip name (view_at t hub ip) ≡ false →
    Spent 3 old new

-- a packet that asks for the file of the modem to which the address is bound, by its name
abbrev pub asks_by_name : ℕ → Ip4 → View → Result Meant PacketFault → Bool
asks_by_name now ip v (Ok (Reads name asked)) = names_file now ip name v
asks_by_name now ip v (Ok (Acknowledges number)) = false
asks_by_name now ip v (Ok Writes) = false
asks_by_name now ip v (Ok GivesUp) = false
asks_by_name now ip v (Ok IsOther) = false
asks_by_name now ip v (Err fault) = false

-- every other packet asks three calls at most
abbrev pub FewUnlessNamedAt : ℕ → Option ℕ → Ip4 → List ℕ → KeeperSeen → KeeperSeen → Type 0
FewUnlessNamedAt now hub ip bytes old new =
    (t : Tables) → old.tables t
    → asks_by_name now ip (view_at t hub ip) (packet_of bytes) ≡ false → Spent 3 old new

-- and so by the tables themselves, where the hub is the address's own
abbrev pub FewUnlessNamed : ℕ → Option ℕ → Ip4 → List ℕ → KeeperSeen → KeeperSeen → Type 0
FewUnlessNamed now hub ip bytes old new =
    (t : Tables) → old.tables t → hub ≡ hub_of t ip
    → asks_by_name now ip (view t ip) (packet_of bytes) ≡ false → Spent 3 old new

-- a packet that acknowledges another one
abbrev pub is_acknowledgement : Result Meant PacketFault → Bool
is_acknowledgement (Ok (Acknowledges number)) = true
is_acknowledgement (Ok (Reads name asked)) = false
is_acknowledgement (Ok Writes) = false
is_acknowledgement (Ok GivesUp) = false
is_acknowledgement (Ok IsOther) = false
is_acknowledgement (Err fault) = false

-- it's remembered that the tables agree with a peer's transfer
abbrev pub agrees_with : ℕ → Peer → Slots → Transfers → Bool
agrees_with now from slots transfers =
    passes (is_remembered now from.ip slots) (map.get transfers from)

-- An acknowledgement of a transfer of which that is remembered asks nothing of the keeper, whatever
-- the tables.
abbrev pub UnaskedWhereAgreed : ℕ → Peer → List ℕ → Transfers → Slots → KeeperSeen → KeeperSeen
    → Type 0
UnaskedWhereAgreed now from bytes transfers slots old new =
    is_acknowledgement (packet_of bytes) ≡ true → agrees_with now from slots transfers ≡ true →
    Spent 0 old new

-- the next block of a transfer was sent: it's there still, and another packet was its last
abbrev pub has_gone_on : Option Transfer → Option Transfer → Bool
has_gone_on None after = false
has_gone_on (Some x) None = false
has_gone_on (Some x) (Some y) = not (x.sent == y.sent)

-- Where a peer's transfer went on, it's remembered afterwards that the tables agree with it, so that
-- the next acknowledgement asks nothing.
abbrev pub RememberedWhereGoneOn : ℕ → Peer → Transfers → Transfers → Slots → Type 0
RememberedWhereGoneOn now from before after slots =
    has_gone_on (map.get before from) (map.get after from) ≡ true →
    agrees_with now from slots after ≡ true

-- And so it is where a transfer began: it began with this request, and there was none that had.
abbrev pub RememberedWhereBegun : ℕ → Peer → List ℕ → Transfers → Transfers → Slots → Type 0
RememberedWhereBegun now from bytes before after slots =
    repeats bytes (map.get before from) ≡ false → repeats bytes (map.get after from) ≡ true →
    agrees_with now from slots after ≡ true
