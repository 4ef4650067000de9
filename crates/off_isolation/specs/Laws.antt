-- Laws of isolation: what one address gets from the TFTP port doesn't depend on other subscribers.
use Rattle.std.specs.Prelude.{◌≡◌, ℕ, IsTrue, List, [], ◌∷◌}
use Rattle.std.specs.FinMap as map
use Rattle.off_base.specs.declared.addresses.Ip4.{Ip4}
use Rattle.off_base.specs.declared.addresses.Peer.{Peer}
use Rattle.off_defs.specs.State.{Tables, State, Said}
use Rattle.off_transfer_rules.specs.Requests.{Datagram}
use Rattle.off_transfer_rules.specs.View.{view}
use Rattle.off_transfer_rules.specs.Transfers.{Transfers}
use Rattle.off_transfer_rules.specs.Steps.{Given, TftpStep}
use Rattle.off_transfer_laws.specs.SameRows.{SameRows}
use Rattle.off_book.specs.Run.{Turn, Run}
use Rattle.off_isolation.specs.Own.{is_at, Came, OwnEvent, own_events, given_to}
use Rattle.off_isolation.specs.Alone.{Alone, IsolatedThrough, AreOwn}

-- ---- one run

-- where no transfer is live at its begin, as at the start, each address gets what it gets alone
abbrev pub RunsAreIsolated : Type 0
RunsAreIsolated =
    (s last : State) (turns : List Turn)
    → Run s turns last → s.held.transfers ≡ map.empty → IsolatedThrough s turns

-- and from every state on, what it gets alone with its own of the transfers that are live there
abbrev pub RunsAreIsolatedFrom : Type 0
RunsAreIsolatedFrom =
    (s last : State) (turns : List Turn) (ip : Ip4) (own : Transfers)
    → Run s turns last → AreOwn ip s.held.transfers own
    → Alone (own_events ip s turns) own (given_to ip turns)

-- Alone an address gets one thing, and it gets something: what it gets alone is told by its events
-- and its own transfers.
abbrev pub AloneIsOne : Type 0
AloneIsOne =
    (events : List OwnEvent) (transfers : Transfers) (one other : List Said)
    → Alone events transfers one → Alone events transfers other → one ≡ other

abbrev pub AloneIsThere : Type 0
AloneIsThere =
    (events : List OwnEvent) (transfers : Transfers)
    → (said : List Said) × Alone events transfers said

-- ---- one datagram: of the tables nothing counts but what is read for the peer's address

abbrev pub SameView : Tables → Tables → Ip4 → Type 0
SameView tables other ip = view tables ip ≡ view other ip

-- tables that show the address the same give the same transfers, items and word
abbrev pub ViewsGiveTheSame : Type 0
ViewsGiveTheSame =
    (tables other : Tables) (transfers : Transfers) (datagram : Datagram) (given again : Given)
    → SameView tables other datagram.from.ip
    → TftpStep tables transfers datagram given → TftpStep other transfers datagram again
    → given ≡ again

-- which they do where the rows that count for the address are the same, whatever the others are
abbrev pub RowsShowTheSame : Type 0
RowsShowTheSame =
    (tables other : Tables) (ip : Ip4) → SameRows tables other ip → SameView tables other ip

-- ---- two runs

-- the same datagram or a Tick in both, at one moment, and a datagram over tables that are the same
-- to its address
pub record AreAlike (Same : Tables → Tables → Ip4 → Type 0) (event other : OwnEvent) : Type 0 where
  pub what : event.what ≡ other.what
  pub now : event.now ≡ other.now
  pub tables : (from : Peer) (bytes : List ℕ) → event.what ≡ Came from bytes
      → Same event.tables other.tables from.ip

abbrev pub AllAlike : (Tables → Tables → Ip4 → Type 0) → List OwnEvent → List OwnEvent → Type 0
AllAlike Same [] [] = Unit {0}
AllAlike Same [] (other ∷ others) = ⊥
AllAlike Same (event ∷ events) [] = ⊥
AllAlike Same (event ∷ events) (other ∷ others) =
    AreAlike Same event other × AllAlike Same events others

-- the peers at the address have the same transfers
abbrev pub HaveTheSame : Ip4 → Transfers → Transfers → Type 0
HaveTheSame ip transfers others =
    (peer : Peer) → IsTrue (is_at ip peer) → map.get transfers peer ≡ map.get others peer

-- An address whose own transfers and events are alike in two runs gets the same in both, event by
-- event, whatever other rows, transfers and events the runs have.
abbrev pub BothGiveTheSame : (Tables → Tables → Ip4 → Type 0) → Type 0
BothGiveTheSame Same =
    (s u last end : State) (turns others : List Turn) (ip : Ip4)
    → Run s turns last → Run u others end
    → HaveTheSame ip s.held.transfers u.held.transfers
    → AllAlike Same (own_events ip s turns) (own_events ip u others)
    → given_to ip turns ≡ given_to ip others
