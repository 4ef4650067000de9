-- Worked examples, evaluated: the definitions say what was meant. A peer has a file of eleven bytes in
-- blocks of eight; meanwhile time passes, and another peer is served.
use Rattle.std.proofs.Common.{◌≡◌, ℕ, List, [], ◌∷◌, ◌++◌, true, false, refl, codes}
use Rattle.off_base.specs.declared.addresses.Peer.{Peer}
use Rattle.off_defs.specs.declared.events.Service.TheVariants.{Tftp}
use Rattle.off_defs.specs.declared.events.What.{What}
use Rattle.off_defs.specs.declared.events.What.TheVariants.{Datagram, Tick}
use Rattle.off_defs.specs.declared.results.Outcome.TheVariants.{Did}
use Rattle.off_defs.specs.declared.results.Sent.{Sent}
use Rattle.off_packets.specs.Packets.{packet_of}
use Rattle.off_transfer_rules.specs.Transfers.{packet_to}
use Rattle.off_book.specs.Run.{Turn}
use Rattle.off_transfer_runs.specs.Turns.{Remains, Breaks, fate, is_data, block_given}
use Rattle.off_transfer_runs.specs.Got.{acked, got, is_done}

abbrev at_port : ℕ → Peer
at_port port = record { ip = record { 0 = 0x0a40000a }; port = port }

abbrev modem : Peer
modem = at_port 2001

abbrev other : Peer
other = at_port 2002

-- a turn in which nothing that was sent went out
abbrev turn : What → List ℕ → List Sent → Turn
turn what line items =
    record { event = record { at = record { 0 = 1700000000 }; what = what }; outcome = Did; said = record { items = items; line = line }; commit = []; went = false ∷ [] }

abbrev one : List ℕ
one = codes "abcdefgh"

abbrev two : List ℕ
two = codes "ijk"

abbrev data_of : ℕ → List ℕ → List ℕ
data_of number block = 0 ∷ 3 ∷ 0 ∷ number ∷ block

abbrev acknowledges : Peer → ℕ → List ℕ → List Sent → Turn
acknowledges from number line items = turn (Datagram Tftp from (0 ∷ 4 ∷ 0 ∷ number ∷ [])) line items

abbrev gives : Peer → ℕ → List ℕ → List Sent
gives to number block = packet_to to (data_of number block) ∷ []

-- behind an OACK: block 1, which goes again; the other peer's last acknowledgement; one that comes
-- again; block 2; and its acknowledgement. What comes behind that is no more of the transfer.
abbrev whole : List Turn
whole =
    acknowledges modem 0 (codes "tftp block 1") (gives modem 1 one)
    ∷ turn Tick (codes "tick again 2 closed 0") (gives modem 1 one ++ gives other 4 two)
    ∷ acknowledges other 4 (codes "tftp done") []
    ∷ acknowledges modem 0 (codes "tftp stale-ack") []
    ∷ acknowledges modem 1 (codes "tftp block 2") (gives modem 2 two)
    ∷ acknowledges modem 2 (codes "tftp done") []
    ∷ acknowledges modem 2 (codes "tftp unknown") []
    ∷ []

whole_acked : acked modem whole ≡ 1 ∷ 2 ∷ []
unfolding packet_of
whole_acked = refl

whole_got : got modem [] whole ≡ codes "abcdefghijk"
unfolding packet_of
whole_got = refl

whole_done : is_done modem whole ≡ true
unfolding packet_of
whole_done = refl

-- behind block 1: it is acknowledged, and the transfer ends before block 2 is
abbrev broken : List ℕ → List Turn
broken line = acknowledges modem 1 (codes "tftp block 2") (gives modem 2 two) ∷ acknowledges modem 2 line [] ∷ acknowledges modem 2 (codes "tftp done") [] ∷ []

broken_acked : acked modem (broken (codes "tftp agreement")) ≡ 1 ∷ []
unfolding packet_of
broken_acked = refl

broken_got : got modem one (broken (codes "tftp agreement")) ≡ one
unfolding packet_of
broken_got = refl

broken_done : is_done modem (broken (codes "tftp agreement")) ≡ false
unfolding packet_of
broken_done = refl

-- an acknowledgement for which memory was wanted counts when it comes again
wanting : acked modem (broken (codes "tftp memory")) ≡ 1 ∷ 2 ∷ []
unfolding packet_of
wanting = refl

-- ---- single turns

abbrev requests : List ℕ → Turn
requests line = turn (Datagram Tftp modem (0 ∷ 1 ∷ (codes "a.cm" ++ 0 ∷ (codes "octet" ++ 0 ∷ [])))) line []

new_request : fate modem (requests (codes "tftp block 1")) ≡ Breaks
unfolding packet_of
new_request = refl

refused_request : fate modem (requests (codes "tftp full")) ≡ Remains
unfolding packet_of
refused_request = refl

gives_up : fate modem (turn (Datagram Tftp modem (0 ∷ 5 ∷ 0 ∷ 0 ∷ 0 ∷ [])) (codes "tftp peer-error") []) ≡ Breaks
unfolding packet_of
gives_up = refl

gives_up_of_other : fate other (turn (Datagram Tftp modem (0 ∷ 5 ∷ 0 ∷ 0 ∷ 0 ∷ [])) (codes "tftp peer-error") []) ≡ Remains
gives_up_of_other = refl

given : block_given modem (acknowledges modem 1 (codes "tftp block 2") (gives modem 2 two)) ≡ two
given = refl

oack_is_no_block : is_data (0 ∷ 6 ∷ codes "blksize") ≡ false
oack_is_no_block = refl
