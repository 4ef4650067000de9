-- A datagram to the TFTP port, and a Tick: what they do to transfers, and what is sent (RFC 1350).
use Rattle.std.specs.Prelude.{◌≡◌, ℕ, List, []}
use Rattle.off_base.specs.declared.addresses.Peer.{Peer}
use Rattle.off_defs.specs.declared.results.Sent.{Sent}
use Rattle.off_defs.specs.State.{State, Said, Effect}
use Rattle.off_transfer_rules.specs.Requests.{datagram_at}
use Rattle.off_transfer_rules.specs.Transfers.{Transfers}
use Rattle.off_transfer_rules.specs.Steps.{Given, TftpStep}
use Rattle.off_transfer_rules.specs.Ticks.{TickStep}
use Rattle.off_transfer_rules.specs.Words.{tftp_line, tick_line}
use Rattle.off_transfer_rules.specs.declared.ticks.Ticked.{Ticked}

abbrev pub with_transfers : State → Transfers → State
with_transfers s transfers = record s { held = record s.held { transfers = transfers } }

-- nothing is written to the tables, and of the state nothing but transfers changes
abbrev pub transfers_effect : State → Transfers → Said → Effect
transfers_effect s transfers said =
    record { said = said; commit = []; after = with_transfers s transfers }

abbrev pub tftp_said : Given → Said
tftp_said given = record { items = given.items; line = tftp_line given.word }

pub record TftpDid (s : State) (from : Peer) (bytes : List ℕ) (effect : Effect) : Type 0 where
  pub given : Given
  pub step : TftpStep s.tables s.held.transfers (datagram_at s.held.now from bytes) given
  pub does : effect ≡ transfers_effect s given.transfers (tftp_said given)

abbrev pub tick_said : List Sent → Ticked → Said
tick_said items ticked = record { items = items; line = tick_line ticked }

pub record TickDid (s : State) (effect : Effect) : Type 0 where
  pub transfers : Transfers
  pub items : List Sent
  pub ticked : Ticked
  pub step : TickStep s.held.now s.held.transfers transfers items ticked
  pub does : effect ≡ transfers_effect s transfers (tick_said items ticked)
