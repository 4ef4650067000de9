-- What is decided of a datagram, and how that is what its way gives.
use Rattle.std.specs.Prelude.{◌≡◌, ℕ, Bool, List, [], ◌∷◌, true, false, Option, Some, None, IfSome, MatchOption, ⊤}
use Rattle.std.specs.FinMap as map
use Rattle.off_base.specs.declared.addresses.Ip4.{Ip4}
use Rattle.off_base.specs.declared.addresses.Peer.{Peer}
use Rattle.off_defs.specs.declared.results.Sent.{Sent}
use Rattle.off_defs.specs.State.{Tables, Transfer}
use Rattle.off_kept.specs.declared.bodies.KeptBody.{KeptBody}
use Rattle.off_kept.specs.Entries.{Entries, with_first}
use Rattle.off_kept.specs.Right.{AllRight}
use Rattle.off_account_rules.specs.Rows.{passes}
use Rattle.off_tftp.specs.Agreements.{Slots, stands_for, is_remembered, with_agreed, IsAgreementOf, AllAgreed}
use Rattle.off_packets.specs.Replies.{error_packet}
use Rattle.off_transfer_rules.specs.Requests.{Datagram}
use Rattle.off_transfer_rules.specs.Transfers.{Transfers, asked_again, gone_on, is_at_last, first_word, last_packet, packet_to}
use Rattle.off_transfer_rules.specs.View.{View}
use Rattle.off_transfer_rules.specs.Steps.{Denial, Way, Given, GivesBy, TftpStep, gives, way}
use Rattle.off_transfer_rules.specs.declared.words.TftpWord.{TftpWord}
use Rattle.off_transfer_rules.specs.Steps.{illegal_operation, access_violation, octet_only, no_lease, no_longer_agreed, file_not_found, too_many_transfers, unknown_transfer}
use Rattle.off_tftp.specs.Kept.{HasRoomFor, changed}
use Rattle.off_tftp.specs.Places.{IsPlaceOf}
use Rattle.off_tftp.specs.Keeping.{kept_by, kept_after}
use Rattle.off_tftp.specs.Granted.{as_came, begun_by}
use Rattle.off_tftp.specs.declared.requests.Datagram.{Datagram as Received}
use Rattle.off_tftp.specs.declared.requests.Request.{Request}
use Rattle.off_tftp.specs.declared.requests.Grant.{Grant}
use Rattle.off_tftp.specs.declared.deciding.Change.{Change}
use Rattle.off_tftp.specs.declared.deciding.Change.TheVariants as change
use Rattle.off_tftp.specs.declared.deciding.Decision.{Decision}
use Rattle.off_tftp.specs.declared.deciding.Refusal.{Refusal}
use Rattle.off_tftp.specs.declared.deciding.Refusal.TheVariants as why

abbrev pub items_of : Option Sent → List Sent
items_of None = []
items_of (Some item) = item ∷ []

-- the transfers that a change leaves
abbrev pub after_change : Change → ℕ → Transfers → Peer → Transfers
after_change change.Stays now transfers from = transfers
after_change (change.AsksAgain place) now transfers from = changed transfers from (asked_again now)
after_change (change.GoesOn place) now transfers from = changed transfers from (gone_on now)
after_change (change.Ends place) now transfers from = map.remove transfers from
after_change (change.Begins place live entry) now transfers from = map.insert transfers from live

-- the next block of the peer's transfer goes
abbrev pub goes_on : Change → Bool
goes_on change.Stays = false
goes_on (change.AsksAgain place) = false
goes_on (change.GoesOn place) = true
goes_on (change.Ends place) = false
goes_on (change.Begins place live entry) = false

-- the transfer that begins, if one does
abbrev pub new_transfer_by : Change → Option Transfer
new_transfer_by change.Stays = None
new_transfer_by (change.AsksAgain place) = None
new_transfer_by (change.GoesOn place) = None
new_transfer_by (change.Ends place) = None
new_transfer_by (change.Begins place live entry) = Some live

-- what it leaves of what is kept
abbrev pub kept_behind : Change → Entries → Entries
kept_behind (change.Begins place live entry) entries = with_first live.modem entry entries
kept_behind other entries = entries

-- a change that can be made: it's where the peer's transfer stands, a block follows where there is
-- one, and a transfer is put where there is room
abbrev pub CanBe : Change → Transfers → Peer → Type 0
CanBe change.Stays transfers from = ⊤
CanBe (change.AsksAgain place) transfers from = IsPlaceOf transfers from place
CanBe (change.GoesOn place) transfers from =
    IsPlaceOf transfers from place
    × IfSome (map.get transfers from) (λ x. is_at_last x ≡ false)
CanBe (change.Ends place) transfers from = IsPlaceOf transfers from place
CanBe (change.Begins place live entry) transfers from =
    IsPlaceOf transfers from place × HasRoomFor transfers from

-- what is said for each reason of a refusal
abbrev pub denial_of : Refusal → Denial
denial_of why.Form = illegal_operation
denial_of why.Write = access_violation
denial_of why.Mode = octet_only
denial_of why.NoLease = no_lease
denial_of why.Agreement = no_longer_agreed
denial_of why.Name = file_not_found
denial_of why.Full = too_many_transfers
denial_of why.Unknown = unknown_transfer

abbrev pub denial : ℕ → List ℕ → TftpWord → Denial
denial code text word = record { code = code; text = text; word = word }

-- a refusal is sent, and nothing changes
abbrev pub refusal_of : Peer → Denial → Decision
refusal_of from denial = record {
  word = denial.word;
  sent = Some (packet_to from (error_packet denial.code denial.text));
  change = change.Stays;
  agreed = None;
}

-- a transfer that begins, with its first packet
abbrev pub start_of : Request → KeptBody → Transfer → Decision
start_of request entry live = record {
  word = first_word request.options;
  sent = Some (packet_to request.from (last_packet live));
  change = change.Begins request.place live entry;
  agreed = None;
}

-- where nothing was found there is no such file
abbrev pub Starts : Request → KeptBody → Option Grant → Decision → Type 0
Starts request entry grant d =
    MatchOption grant (d ≡ refusal_of request.from file_not_found)
    (λ grant. d ≡ start_of request entry (begun_by request grant))

-- no change that touches what is kept
abbrev pub KeepsNothing : Decision → Type 0
KeepsNothing d = (entries : Entries) → kept_behind d.change entries ≡ entries

-- nothing was seen of agreement, and no block goes by it
pub record SeesNothing (d : Decision) : Type 0 where
  pub none : d.agreed ≡ None
  pub ends : goes_on d.change ≡ false

-- what was seen of agreement is right by what there is for the peer
abbrev pub SeesRight : View → Ip4 → Decision → Type 0
SeesRight v ip d = IfSome d.agreed (IsAgreementOf v ip)

-- where the next block goes agreement is remembered, once what was seen of it is put
abbrev pub Remembers : ℕ → Peer → Option Transfer → Slots → Decision → Type 0
Remembers now from live slots d =
    goes_on d.change ≡ true
    → IfSome live (λ x. is_remembered now from.ip (with_agreed d.agreed slots) x ≡ true)

-- where a transfer begins agreement with it was seen, and is to be remembered
abbrev pub SeesBegun : ℕ → Peer → Decision → Type 0
SeesBegun now from d =
    IfSome (new_transfer_by d.change) (λ x. passes (stands_for now from.ip x) d.agreed ≡ true)

abbrev pub given_by : Decision → ℕ → Transfers → Peer → Given
given_by d now transfers from =
    gives (after_change d.change now transfers from) (items_of d.sent) d.word

-- what is decided is what the way gives, by what is read for the peer
abbrev pub Does : View → Transfers → Datagram → Way → Decision → Type 0
Does v transfers datagram way d =
    GivesBy v transfers datagram way (given_by d datagram.at transfers datagram.from)

-- and what it keeps is what the way keeps
pub record Serves (v : View) (transfers : Transfers) (datagram : Datagram) (way : Way)
    (d : Decision) : Type 0 where
  pub does : Does v transfers datagram way d
  pub keeps : (entries : Entries) → kept_behind d.change entries ≡ kept_by v way entries

-- a datagram, by what there is for its peer
abbrev pub Decides : View → Transfers → Datagram → Decision → Type 0
Decides v transfers datagram d = Serves v transfers datagram (way v transfers datagram) d

-- and what was seen of agreement is right
pub record Judges (v : View) (transfers : Transfers) (datagram : Datagram) (d : Decision) : Type 0
  where
    pub decides : Decides v transfers datagram d
    pub sees : SeesRight v datagram.from.ip d

-- by the tables themselves: what is decided is the step that answers the datagram, and what it
-- keeps and remembers is right by them again
pub record Answers (tables : Tables) (received : Received) (transfers : Transfers)
    (kept : Entries) (slots : Slots) (d : Decision) : Type 0 where
  pub step : TftpStep tables transfers (as_came received)
      (given_by d received.at.0 transfers received.from)
  pub keeps : kept_behind d.change kept ≡ kept_after tables transfers (as_came received) kept
  pub right : AllRight tables (kept_behind d.change kept)
  pub agreed : AllAgreed tables (with_agreed d.agreed slots)
