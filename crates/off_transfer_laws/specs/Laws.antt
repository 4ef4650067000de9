-- Laws of transfers, over all tables, transfers and moments where nothing else is said.
use Rattle.std.specs.Prelude.{◌≡◌, ◌≢◌, ◌⊎◌, ◌↔◌, ℕ, ◌+◌, ◌≤◌, ◌<◌, Bool, true, false, IsTrue, List, [], ◌∷◌, length, Option, Some, None, MatchOption}
use Rattle.std.specs.FinMap as map
use Rattle.off_base.specs.declared.addresses.Ip4.{Ip4}
use Rattle.off_base.specs.declared.addresses.Peer.{Peer}
use Rattle.off_defs.specs.declared.results.Sent.{Sent}
use Rattle.off_defs.specs.State.{Tables, Transfer}
use Rattle.off_account_rules.specs.Good.{Good}
use Rattle.off_file_rules.specs.File.{IsFile}
use Rattle.off_transfer_rules.specs.Requests.{Datagram, ReadRequest, FileOwner}
use Rattle.off_transfer_rules.specs.View.{view, agrees, IsBuiltBy}
use Rattle.off_transfer_rules.specs.Transfers.{Transfers, most_transfers, sent_again, packet_to}
use Rattle.off_transfer_rules.specs.Steps.{Accepts, has_file, way, Given, TftpStep}
use Rattle.off_transfer_rules.specs.Ticks.{is_due, TickStep}
use Rattle.off_transfer_rules.specs.declared.ticks.Ticked.{Ticked}
use Rattle.off_transfer_rules.specs.declared.words.TftpWord.{TftpWord}
use Rattle.off_transfer_rules.specs.declared.words.TftpWord.TheVariants as word
use Rattle.off_transfer_laws.specs.Agreement.{Agreement}

-- ---- one result: a datagram gives one thing, and it gives something

abbrev pub TransferStepIsOne : Type 0
TransferStepIsOne =
    (tables : Tables) (transfers : Transfers) (datagram : Datagram) (one other : Given)
    → TftpStep tables transfers datagram one → TftpStep tables transfers datagram other
    → one ≡ other

abbrev pub TransferStepIsThere : Type 0
TransferStepIsThere =
    (tables : Tables) (transfers : Transfers) (datagram : Datagram)
    → (given : Given) × TftpStep tables transfers datagram given

-- ---- what a datagram leaves

abbrev pub OthersStay : Type 0
OthersStay =
    (tables : Tables) (transfers : Transfers) (datagram : Datagram) (given : Given)
    → TftpStep tables transfers datagram given
    → (peer : Peer) → peer ≢ datagram.from → map.get given.transfers peer ≡ map.get transfers peer

abbrev pub FewStay : Type 0
FewStay =
    (tables : Tables) (transfers : Transfers) (datagram : Datagram) (given : Given)
    → TftpStep tables transfers datagram given
    → map.len transfers ≤ most_transfers → map.len given.transfers ≤ most_transfers

-- nothing is sent, or one packet to the peer
abbrev pub IsAnswerTo : Peer → List Sent → Type 0
IsAnswerTo from items = (items ≡ []) ⊎ (packet : List ℕ) × (items ≡ packet_to from packet ∷ [])

abbrev pub AnswersGoBack : Type 0
AnswersGoBack =
    (tables : Tables) (transfers : Transfers) (datagram : Datagram) (given : Given)
    → TftpStep tables transfers datagram given → IsAnswerTo datagram.from given.items

-- the words with which no transfer changes
abbrev pub is_refusal : TftpWord → Bool
is_refusal word.Form = true
is_refusal word.Write = true
is_refusal word.Mode = true
is_refusal word.NoLease = true
is_refusal word.Name = true
is_refusal word.Full = true
is_refusal word.Unknown = true
is_refusal word.StaleAck = true
is_refusal word = false

abbrev pub RefusalsLeave : Type 0
RefusalsLeave =
    (tables : Tables) (transfers : Transfers) (datagram : Datagram) (given : Given)
    → TftpStep tables transfers datagram given → is_refusal given.word ≡ true
    → given.transfers ≡ transfers

-- ---- what is read of the tables

-- of the tables nothing counts but what is read for the peer's address
abbrev pub ViewsDecide : Type 0
ViewsDecide =
    (tables other : Tables) (transfers : Transfers) (datagram : Datagram) (given : Given)
    → view tables datagram.from.ip ≡ view other datagram.from.ip
    → TftpStep tables transfers datagram given → TftpStep other transfers datagram given

abbrev pub AgreementStands : Type 0
AgreementStands =
    (tables : Tables) (now : ℕ) (ip : Ip4) (name : List ℕ) (owner : FileOwner)
    → IsTrue (agrees (view tables ip) now ip name owner) ↔ Agreement tables now ip name owner

-- a request that is accepted agrees with the tables
abbrev pub AcceptedAgree : Type 0
AcceptedAgree =
    (tables : Tables) (transfers : Transfers) (datagram : Datagram)
    (request : ReadRequest) (owner : FileOwner)
    → way (view tables datagram.from.ip) transfers datagram ≡ Accepts request owner
    → Agreement tables datagram.at datagram.from.ip request.name owner

-- where they agree, what is built for the address is the modem's file, and nothing else is
abbrev pub FilesAreOwn : Type 0
FilesAreOwn =
    (tables : Tables) (now : ℕ) (ip : Ip4) (name : List ℕ) (owner : FileOwner) (file : List ℕ)
    → Agreement tables now ip name owner
    → IsBuiltBy (view tables ip) now ip file ↔ IsFile tables owner.modem now ip file

-- in good tables there is one
abbrev pub GoodHaveFiles : Type 0
GoodHaveFiles =
    (tables : Tables) (now : ℕ) (ip : Ip4) (name : List ℕ) (owner : FileOwner)
    → Good tables → Agreement tables now ip name owner
    → IsTrue (has_file (view tables ip) ip name owner.modem)

-- ---- Ticks

pub record SameTick (one other : Transfers) (items sent : List Sent) (ticked said : Ticked)
    : Type 0 where
  pub transfers : one ≡ other
  pub items_sent : items ≡ sent
  pub counts : ticked ≡ said

abbrev pub TickIsOne : Type 0
TickIsOne =
    (now : ℕ) (transfers one other : Transfers) (items sent : List Sent) (ticked said : Ticked)
    → TickStep now transfers one items ticked → TickStep now transfers other sent said
    → SameTick one other items sent ticked said

pub record SomeTick (now : ℕ) (transfers : Transfers) : Type 0 where
  pub after : Transfers
  pub items : List Sent
  pub ticked : Ticked
  pub step : TickStep now transfers after items ticked

abbrev pub TickIsThere : Type 0
TickIsThere = (now : ℕ) (transfers : Transfers) → SomeTick now transfers

abbrev pub TickSends : Type 0
TickSends =
    (now : ℕ) (old new : Transfers) (items : List Sent) (ticked : Ticked)
    → TickStep now old new items ticked → length items ≡ ticked.again

abbrev pub TickCloses : Type 0
TickCloses =
    (now : ℕ) (old new : Transfers) (items : List Sent) (ticked : Ticked)
    → TickStep now old new items ticked → map.len new + ticked.closed ≡ map.len old

-- what becomes of a transfer by a Tick: nothing before its time; else its last packet is sent
-- again, or it is closed
pub data Ticks (now : ℕ) (x : Transfer) (after : Option Transfer) : Type 0 where
  waits : is_due now x ≡ false → after ≡ Some x → Ticks now x after
  goes_again : is_due now x ≡ true → x.resends < 5 → after ≡ Some (sent_again now x)
      → Ticks now x after
  closes : is_due now x ≡ true → 5 ≤ x.resends → after ≡ None → Ticks now x after

abbrev pub TickChanges : Type 0
TickChanges =
    (now : ℕ) (old new : Transfers) (items : List Sent) (ticked : Ticked)
    → TickStep now old new items ticked
    → (peer : Peer)
    → MatchOption (map.get old peer) (map.get new peer ≡ None) (λ x. Ticks now x (map.get new peer))
