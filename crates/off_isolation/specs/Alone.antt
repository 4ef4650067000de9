-- An address alone: its own events over its own transfers, as if there were no other peer.
use Rattle.std.specs.Prelude.{◌≡◌, ℕ, List, [], ◌∷◌, None, if◌then◌else◌}
use Rattle.std.specs.FinMap as map
use Rattle.off_base.specs.declared.addresses.Ip4.{Ip4}
use Rattle.off_base.specs.declared.addresses.Peer.{Peer}
use Rattle.off_defs.specs.declared.results.Sent.{Sent}
use Rattle.off_defs.specs.State.{Tables, State, Said}
use Rattle.off_transfer_rules.specs.Requests.{datagram_at}
use Rattle.off_transfer_rules.specs.Transfers.{Transfers}
use Rattle.off_transfer_rules.specs.Steps.{Given, TftpStep}
use Rattle.off_transfer_rules.specs.Ticks.{TickStep}
use Rattle.off_transfer_rules.specs.declared.ticks.Ticked.{Ticked}
use Rattle.off_book.specs.Tftp.{tftp_said}
use Rattle.off_book.specs.Run.{Turn}
use Rattle.off_isolation.specs.Own.{is_at, Happening, Came, Passed, OwnEvent, own_events, given_to}

-- a datagram of a peer, over these transfers and no others
pub record GetsAlone (tables : Tables) (now : ℕ) (from : Peer) (bytes : List ℕ)
    (old new : Transfers)
    (said : Said) : Type 0 where
  pub given : Given
  pub step : TftpStep tables old (datagram_at now from bytes) given
  pub leaves : new ≡ given.transfers
  pub says : said ≡ tftp_said given

-- a Tick, over these transfers and no others
pub record Waits (now : ℕ) (old new : Transfers) (said : Said) : Type 0 where
  pub items : List Sent
  pub ticked : Ticked
  pub step : TickStep now old new items ticked
  pub says : said ≡ record { items = items; line = [] }

abbrev pub StepAlone : Tables → ℕ → Happening → Transfers → Transfers → Said → Type 0
StepAlone tables now (Came from bytes) old new said = GetsAlone tables now from bytes old new said
StepAlone tables now Passed old new said = Waits now old new said

-- One event after another, each over the transfers that the one before it left; and what each says.
-- Nothing else is read but the tables and the moment of the event.
abbrev pub Alone : List OwnEvent → Transfers → List Said → Type 0
Alone [] transfers [] = Unit {0}
Alone [] transfers (said ∷ more) = ⊥
Alone (event ∷ events) transfers [] = ⊥
Alone (event ∷ events) transfers (said ∷ more) =
    (after : Transfers)
    × StepAlone event.tables event.now event.what transfers after said
    × Alone events after more

-- Over these turns, which begin where no transfer is live, each address gets by its events what it
-- gets alone.
abbrev pub IsolatedThrough : State → List Turn → Type 0
IsolatedThrough s turns = (ip : Ip4) → Alone (own_events ip s turns) map.empty (given_to ip turns)

-- those of all transfers whose peers are at the address
abbrev pub AreOwn : Ip4 → Transfers → Transfers → Type 0
AreOwn ip all own =
    (peer : Peer) → map.get own peer ≡ (if is_at ip peer then map.get all peer else None)
