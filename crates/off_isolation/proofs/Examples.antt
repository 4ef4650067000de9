-- Worked examples, evaluated: which turns are events of an address, with which moment, and what it
-- gets by them.
use Rattle.std.proofs.Common.{◌≡◌, ℕ, List, [], ◌∷◌, codes, refl}
use Rattle.off_base.specs.declared.addresses.Ip4.{Ip4}
use Rattle.off_base.specs.declared.addresses.Peer.{Peer}
use Rattle.off_defs.specs.declared.events.Service.TheVariants.{Dhcp, Tftp}
use Rattle.off_defs.specs.declared.events.What.{What}
use Rattle.off_defs.specs.declared.events.What.TheVariants.{Datagram, Tick}
use Rattle.off_defs.specs.declared.results.Outcome.{Outcome}
use Rattle.off_defs.specs.declared.results.Outcome.TheVariants.{Did, Memory}
use Rattle.off_defs.specs.declared.results.Sent.{Sent}
use Rattle.off_defs.specs.State.{Tables, Said, start}
use Rattle.off_transfer_rules.specs.Transfers.{packet_to}
use Rattle.off_transfer_rules.specs.Words.{tftp_line}
use Rattle.off_transfer_rules.specs.declared.words.TftpWord.TheVariants as word
use Rattle.off_book.specs.Run.{Turn}
use Rattle.off_isolation.specs.Own.{Came, Passed, own_event, own_events, given_to}

abbrev ip : ℕ → Ip4
ip n = record { 0 = n }

-- two peers of an address, and one of another
abbrev first : Peer
first = record { ip = ip 0x0a400001; port = 5000 }

abbrev second : Peer
second = record { ip = ip 0x0a400001; port = 5001 }

abbrev neighbour : Peer
neighbour = record { ip = ip 0x0a400002; port = 5000 }

abbrev turn : ℕ → What → Outcome → List Sent → List ℕ → Turn
turn at what outcome items line = record {
  event = record { at = record { 0 = at }; what = what };
  outcome = outcome;
  said = record { items = items; line = line };
  commit = [];
  went = [];
}

abbrev said : List Sent → List ℕ → Said
said items line = record { items = items; line = line }

-- A request is answered, the neighbour's too; a Tick sends to both; then a clock that went back, and
-- memory that is wanted; last the second peer is turned away.
abbrev turns : List ℕ → List Turn
turns p =
    turn 100 (Datagram Tftp first p) Did (packet_to first p ∷ []) (tftp_line word.Oack)
    ∷ turn 101 (Datagram Tftp neighbour p) Did (packet_to neighbour p ∷ []) (tftp_line word.Oack)
    ∷ turn 103 Tick Did (packet_to first p ∷ packet_to neighbour p ∷ []) (codes "tick again 2 closed 0")
    ∷ turn 90 (Datagram Tftp first p) Did (packet_to first p ∷ []) (tftp_line word.Again)
    ∷ turn 104 (Datagram Tftp first p) Memory [] (codes "tftp memory")
    ∷ turn 105 (Datagram Dhcp first p) Did [] (codes "dhcp form")
    ∷ turn 106 (Datagram Tftp second p) Did (packet_to second p ∷ []) (tftp_line word.Full)
    ∷ []

events : (t : Tables) (p : List ℕ)
    → own_events (ip 0x0a400001) (start t) (turns p)
    ≡ own_event t 100 (Came first p) ∷ own_event t 103 Passed ∷ own_event t 103 (Came first p) ∷ []
events t p = refl

given : (p : List ℕ)
    → given_to (ip 0x0a400001) (turns p)
    ≡ said (packet_to first p ∷ []) (tftp_line word.Oack)
    ∷ said (packet_to first p ∷ []) []
    ∷ said (packet_to first p ∷ []) (tftp_line word.Again)
    ∷ []
given p = refl

-- the neighbour has a datagram and the Tick
neighbours : (p : List ℕ)
    → given_to (ip 0x0a400002) (turns p)
    ≡ said (packet_to neighbour p ∷ []) (tftp_line word.Oack) ∷ said (packet_to neighbour p ∷ []) [] ∷ []
neighbours p = refl

-- and an address that sends nothing has the Tick alone, by which it gets nothing
strangers : (p : List ℕ) → given_to (ip 0x0a400003) (turns p) ≡ said [] [] ∷ []
strangers p = refl
