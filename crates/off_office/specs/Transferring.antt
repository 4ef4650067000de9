-- What comes of a datagram to the TFTP port, and of a Tick.
use Rattle.std.specs.Prelude.{◌≡◌, List, ℕ, codes, IfSome}
use Rattle.off_base.specs.declared.addresses.Peer.{Peer}
use Rattle.off_defs.specs.State.{Tables, Said}
use Rattle.off_defs.specs.declared.results.Outcome.{Outcome}
use Rattle.off_defs.specs.declared.results.Outcome.TheVariants as end
use Rattle.off_defs.specs.declared.results.Sent.{Sent}
use Rattle.off_transfer_rules.specs.Requests.{datagram_at}
use Rattle.off_transfer_rules.specs.Transfers.{Transfers}
use Rattle.off_transfer_rules.specs.Steps.{Given, TftpStep}
use Rattle.off_transfer_rules.specs.Ticks.{TickStep}
use Rattle.off_transfer_rules.specs.declared.ticks.Ticked.{Ticked}
use Rattle.off_transfer_rules.specs.Words.{tftp_line}
use Rattle.off_transfer_rules.specs.declared.words.TftpWord.{TftpWord}
use Rattle.off_book.specs.Tftp.{tftp_said, tick_said}
use Rattle.off_outside.specs.declared.keeper.KeepErr.{KeepErr}
use Rattle.off_outside.specs.declared.keeper.KeepErr.TheVariants as keep
use Rattle.off_kept.specs.Entries.{Entries}
use Rattle.off_kept.specs.Right.{AllRight}
use Rattle.off_tftp.specs.Agreements.{Slots, in_slot, with_agreed, AllAgreed}
use Rattle.off_tftp.specs.Deciding.{after_change, kept_behind, items_of}
use Rattle.off_tftp.specs.Keeping.{kept_after}
use Rattle.off_tftp.specs.declared.deciding.Decision.{Decision}
use Rattle.off_office.specs.Desk.{Desk}
use Rattle.off_sessions.specs.Answers.{failed_said}

-- of what the office keeps nothing but the transfers has changed
abbrev pub moved : Desk → Transfers → Desk
moved desk transfers = record desk { held = record desk.held { transfers = transfers } }

-- and nothing but these, the bodies and what is remembered of agreement
abbrev pub moved_with : Desk → Transfers → Entries → Slots → Desk
moved_with desk transfers entries slots =
    record (moved desk transfers) { kept = entries; agreements = slots }

abbrev pub MovesTransfers : Desk → Desk → Type 0
MovesTransfers before after =
    after ≡ moved_with before after.held.transfers after.kept after.agreements

-- A datagram is acted on and said, as the book has it, whatever the tables by which the bodies and
-- what is remembered are right. They are so again.
pub record DidPacket (from : Peer) (bytes : List ℕ) (before after : Desk) (said : Said)
    (tables : Tables) : Type 0 where
  pub given : Given
  pub step : TftpStep tables before.held.transfers (datagram_at before.held.now from bytes) given
  pub moves : after ≡ moved_with before given.transfers after.kept after.agreements
  pub says : said ≡ tftp_said given
  pub keeps : after.kept
      ≡ kept_after tables before.held.transfers (datagram_at before.held.now from bytes) before.kept
  pub right : AllRight tables after.kept
  pub agreed : AllAgreed tables after.agreements

-- what was decided of a datagram is said, and its change made; what was seen of agreement is there
pub record CarriesPacket (from : Peer) (decision : Decision) (before after : Desk) (said : Said)
    : Type 0 where
  pub moves : after
      ≡ moved_with before
      (after_change decision.change before.held.now before.held.transfers from)
      (kept_behind decision.change before.kept) (with_agreed decision.agreed before.agreements)
  pub says : said ≡ record { items = items_of decision.sent; line = tftp_line decision.word }
  pub there : IfSome decision.agreed (λ a. in_slot a.ip after.agreements ≡ decision.agreed)

-- the line of a datagram that was acted on has a word of the service, whatever the tables
pub record SaysPacket (said : Said) : Type 0 where
  pub word : TftpWord
  pub says : said.line ≡ tftp_line word

-- why it couldn't be acted on is said
abbrev pub FailsPacket : KeepErr → Outcome → Said → Type 0
FailsPacket keep.Memory outcome said =
    (outcome ≡ end.Memory) × (said ≡ failed_said (codes "tftp memory"))
FailsPacket keep.Failed outcome said =
    (outcome ≡ end.Keeper) × (said ≡ failed_said (codes "tftp keeper"))

-- a Tick is acted on and said
pub record DidTick (before after : Desk) (said : Said) : Type 0 where
  pub transfers : Transfers
  pub items : List Sent
  pub ticked : Ticked
  pub step : TickStep before.held.now before.held.transfers transfers items ticked
  pub moves : after ≡ moved before transfers
  pub says : said ≡ tick_said items ticked

-- or memory was wanted, and all is as before
pub record MissedTick (before after : Desk) (said : Said) : Type 0 where
  pub stays : after ≡ before
  pub says : said ≡ failed_said (codes "tick memory")

abbrev pub TakesTick : Outcome → Desk → Desk → Said → Type 0
TakesTick end.Did before after said = DidTick before after said
TakesTick end.Memory before after said = MissedTick before after said
TakesTick end.Keeper before after said = ⊥
