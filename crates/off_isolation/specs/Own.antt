-- What an address takes part in over a run: the datagrams that its peers send to the TFTP port, and
-- Ticks. And what it gets by each of these.
use Rattle.std.specs.Prelude.{ℕ, ◌==◌, max, Bool, false, not, ◌&&◌, List, [], ◌∷◌, Option, Some, None, option_map, if◌then◌else◌}
use Rattle.std.specs.List.{filter}
use Rattle.std.specs.Str.{bytes_eq}
use Rattle.off_base.specs.declared.addresses.Ip4.{Ip4}
use Rattle.off_base.specs.declared.addresses.Peer.{Peer}
use Rattle.off_defs.specs.declared.events.Service.TheVariants.{Tftp}
use Rattle.off_defs.specs.declared.events.What.{What}
use Rattle.off_defs.specs.declared.events.What.TheVariants.{Datagram, Tick}
use Rattle.off_defs.specs.declared.results.Outcome.{Outcome}
use Rattle.off_defs.specs.declared.results.Outcome.TheVariants.{Did}
use Rattle.off_defs.specs.declared.results.Sent.{Sent}
use Rattle.off_defs.specs.declared.results.Sent.TheVariants as sent
use Rattle.off_defs.specs.State.{Tables, State, Said}
use Rattle.off_defs.specs.Tables.{write_all}
use Rattle.off_transfer_rules.specs.Words.{tftp_line}
use Rattle.off_transfer_rules.specs.declared.words.TftpWord.TheVariants as word
use Rattle.off_book.specs.Run.{Turn}

-- a peer at the address
abbrev pub is_at : Ip4 → Peer → Bool
is_at ip peer = peer.ip.0 == ip.0

-- one of the address's peers sends a datagram to the TFTP port, or time passes
pub data Happening : Type 0 where
  Came : Peer → List ℕ → Happening
  Passed : Happening

-- a request was refused since as many transfers are live as may be
abbrev pub says_full : List ℕ → Bool
says_full line = bytes_eq line (tftp_line word.Full)

-- What a turn is to the address, where it is anything. What couldn't be acted on is nothing, and so
-- is a request that found all transfers taken.
abbrev pub happening_by : Ip4 → What → Outcome → List ℕ → Option Happening
happening_by ip (Datagram Tftp from bytes) Did line =
    if is_at ip from && not (says_full line) then Some (Came from bytes) else None
happening_by ip Tick Did line = Some Passed
happening_by ip what outcome line = None

abbrev pub happening : Ip4 → Turn → Option Happening
happening ip turn = happening_by ip turn.event.what turn.outcome turn.said.line

-- one more in front, where there is one
abbrev pub in_front : {A : Type 0} → Option A → List A → List A
in_front None rest = rest
in_front (Some first) rest = first ∷ rest

-- ---- the events of an address, each with the tables and the moment at its place of the run

pub record OwnEvent : Type 0 where
  pub tables : Tables
  pub now : ℕ
  pub what : Happening

abbrev pub own_event : Tables → ℕ → Happening → OwnEvent
own_event tables now what = record { tables = tables; now = now; what = what }

abbrev pub own_from : Ip4 → Tables → ℕ → List Turn → List OwnEvent
own_from ip tables now [] = []
own_from ip tables now (turn ∷ turns) =
    in_front (option_map (own_event tables (max now turn.event.at.0)) (happening ip turn))
    (own_from ip (write_all tables turn.commit) (max now turn.event.at.0) turns)

-- those of the turns that follow a state
abbrev pub own_events : Ip4 → State → List Turn → List OwnEvent
own_events ip s turns = own_from ip s.tables s.held.now turns

-- ---- what the address gets by them

abbrev pub goes_to : Ip4 → Sent → Bool
goes_to ip (sent.Datagram service to bytes) = is_at ip to
goes_to ip item = false

abbrev pub items_to : Ip4 → List Sent → List Sent
items_to ip items = filter (goes_to ip) items

-- the items that go to it, and for a datagram the line. A Tick's line counts the packets of all
abbrev pub share_of : Ip4 → Said → Happening → Said
share_of ip said (Came from bytes) = record { items = items_to ip said.items; line = said.line }
share_of ip said Passed = record { items = items_to ip said.items; line = [] }

-- event by event, in order
abbrev pub given_to : Ip4 → List Turn → List Said
given_to ip [] = []
given_to ip (turn ∷ turns) =
    in_front (option_map (share_of ip turn.said) (happening ip turn)) (given_to ip turns)
