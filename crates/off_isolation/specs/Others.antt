-- What else goes to an address from the TFTP port: nothing, but the ERROR by which a request of its
-- own is turned away while as many transfers are live as may be.
use Rattle.std.specs.Prelude.{◌≡◌, ◌⊎◌, ℕ, ◌≤◌, Bool, false, IsTrue, List, [], None}
use Rattle.std.specs.List.{filter}
use Rattle.std.specs.FinMap as map
use Rattle.off_base.specs.declared.addresses.Ip4.{Ip4}
use Rattle.off_base.specs.declared.addresses.Peer.{Peer}
use Rattle.off_defs.specs.declared.events.Service.TheVariants.{Tftp}
use Rattle.off_defs.specs.declared.events.What.{What}
use Rattle.off_defs.specs.declared.events.What.TheVariants.{Datagram}
use Rattle.off_defs.specs.declared.results.Sent.{Sent}
use Rattle.off_defs.specs.declared.results.Sent.TheVariants as sent
use Rattle.off_defs.specs.State.{State}
use Rattle.off_transfer_rules.specs.Transfers.{Transfers, most_transfers}
use Rattle.off_transfer_rules.specs.Steps.{too_many_transfers, error_to}
use Rattle.off_book.specs.Step.{Step}
use Rattle.off_book.specs.Run.{Turn, effect_of}
use Rattle.off_isolation.specs.Own.{is_at, happening}

-- a datagram from the TFTP port
abbrev pub goes_by_tftp : Ip4 → Sent → Bool
goes_by_tftp ip (sent.Datagram Tftp to bytes) = is_at ip to
goes_by_tftp ip item = false

-- all transfers are taken, and none is the peer's
pub record IsTurnedAway (transfers : Transfers) (ip : Ip4) (what : What) (items : List Sent)
    : Type 0 where
  pub from : Peer
  pub bytes : List ℕ
  pub came : what ≡ Datagram Tftp from bytes
  pub own : IsTrue (is_at ip from)
  pub full : most_transfers ≤ map.len transfers
  pub without : map.get transfers from ≡ None
  pub told : items ≡ error_to from too_many_transfers

-- what is no event of the address gives it nothing
abbrev pub NothingElseGoes : Type 0
NothingElseGoes =
    (s after : State) (turn : Turn) (ip : Ip4)
    → Step s turn.event turn.outcome (effect_of turn after)
    → happening ip turn ≡ None
    → (filter (goes_by_tftp ip) turn.said.items ≡ [])
    ⊎ IsTurnedAway s.held.transfers ip turn.event.what turn.said.items
