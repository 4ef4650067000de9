-- What a datagram does to transfers, and how it is answered (RFC 1350; the order of the refusals is
-- this project's profile). A way is chosen by what is read for the peer; each has one effect.
use Rattle.std.specs.Prelude.{◌≡◌, ℕ, ◌==◌, Bool, false, not, ◌&&◌, List, [], ◌∷◌, suc, codes, Option, Some, None, is_some, option_map, Result, Ok, Err, if◌then◌else◌}
use Rattle.std.specs.Str.{bytes_eq}
use Rattle.std.specs.FinMap as map
use Rattle.off_base.specs.declared.addresses.Ip4.{Ip4}
use Rattle.off_base.specs.declared.addresses.Peer.{Peer}
use Rattle.off_base.specs.declared.macs.Mac.{Mac}
use Rattle.off_defs.specs.declared.results.Sent.{Sent}
use Rattle.off_defs.specs.declared.tables.Modem.{Modem}
use Rattle.off_defs.specs.State.{Tables, Transfer}
use Rattle.off_account_rules.specs.Rows.{passes}
use Rattle.off_packets.specs.Packets.{Meant, Reads, Writes, Acknowledges, GivesUp, IsOther, packet_of}
use Rattle.off_packets.specs.Replies.{error_packet}
use Rattle.off_transfer_rules.specs.Requests.{Datagram, ReadRequest, FileOwner}
use Rattle.off_transfer_rules.specs.Requests.{request_for, file_owner}
use Rattle.off_transfer_rules.specs.View.{View, view, holder, is_own_name, agrees, IsBuiltBy}
use Rattle.off_transfer_rules.specs.Transfers.{Transfers, has_no_room, first_word, new_transfer, last_packet, is_at_last, gone_on, asked_again, packet_to}
use Rattle.off_packets.specs.declared.faults.PacketFault.{PacketFault}
use Rattle.off_packets.specs.declared.faults.PacketFault.TheVariants as fault
use Rattle.off_transfer_rules.specs.declared.words.TftpWord.{TftpWord}
use Rattle.off_transfer_rules.specs.declared.words.TftpWord.TheVariants as word

-- ---- refusals: the code and the text of an ERROR (RFC 1350, appendix), and the word of the log

pub record Denial : Type 0 where
  pub code : ℕ
  pub text : List ℕ
  pub word : TftpWord

abbrev pub illegal_operation : Denial
illegal_operation = record { code = 4; text = codes "illegal operation"; word = word.Form }

abbrev pub access_violation : Denial
access_violation = record { code = 2; text = codes "access violation"; word = word.Write }

abbrev pub octet_only : Denial
octet_only = record { code = 0; text = codes "octet only"; word = word.Mode }

abbrev pub no_lease : Denial
no_lease = record { code = 2; text = codes "no lease"; word = word.NoLease }

abbrev pub no_longer_agreed : Denial
no_longer_agreed = record { code = 2; text = codes "no longer agreed"; word = word.Agreement }

abbrev pub file_not_found : Denial
file_not_found = record { code = 1; text = codes "file not found"; word = word.Name }

abbrev pub too_many_transfers : Denial
too_many_transfers = record { code = 0; text = codes "too many transfers"; word = word.Full }

abbrev pub unknown_transfer : Denial
unknown_transfer = record { code = 5; text = codes "unknown transfer"; word = word.Unknown }

-- ---- ways

pub data Way : Type 0 where
  Denies : Denial → Way
  Repeats : Transfer → Way
  Accepts : ReadRequest → FileOwner → Way
  Ignores : Way
  Finishes : Way
  BreaksOff : Way
  GoesOn : Transfer → Way
  Leaves : Way

-- A request is one that came before where it has the same bytes and nothing was acknowledged since
-- (RFC 1350 section 4)
abbrev pub is_repeated : List ℕ → Transfer → Bool
is_repeated bytes x = not x.is_acknowledged && bytes_eq x.request bytes

-- A request for the modem of the address: it has a file of this name, and there is room, or a
-- transfer of the peer to be replaced. Where a row of which the file is built isn't there, there is
-- no file; good tables have them all.
abbrev pub has_file : View → Ip4 → List ℕ → Mac → Bool
has_file v ip name mac = passes (is_own_name name mac ip) v.site && is_some v.profile

abbrev pub way_for_owner : View → Ip4 → Bool → ReadRequest → Option FileOwner → Way
way_for_owner v ip no_room request None = Denies no_longer_agreed
way_for_owner v ip no_room request (Some owner) =
    if not (has_file v ip request.name owner.modem) then Denies file_not_found
    else if no_room then Denies too_many_transfers
    else Accepts request owner

-- the modem with its subscriber, by the modem's row
abbrev pub owner_by_row : Mac → Option Modem → Option FileOwner
owner_by_row mac row = option_map (λ row. file_owner mac row.subscriber) row

abbrev pub way_for_holder : View → Ip4 → Bool → ReadRequest → Option Mac → Way
way_for_holder v ip no_room request None = Denies no_lease
way_for_holder v ip no_room request (Some mac) =
    way_for_owner v ip no_room request (owner_by_row mac v.modem)

abbrev pub way_anew : View → ℕ → Ip4 → Bool → ReadRequest → Way
way_anew v now ip no_room request = way_for_holder v ip no_room request (holder now v)

abbrev pub way_of_request : View → Datagram → Bool → ReadRequest → Option Transfer → Way
way_of_request v datagram full request None =
    way_anew v datagram.at datagram.from.ip full request
way_of_request v datagram full request (Some x) =
    if is_repeated datagram.bytes x then Repeats x
    else way_anew v datagram.at datagram.from.ip false request

-- An acknowledgement of the packet that was sent last. One of an earlier packet is passed over, so
-- that no block is sent twice for it (RFC 1123 section 4.2.3.1).
abbrev pub way_of_last : View → ℕ → Ip4 → Transfer → Way
way_of_last v now ip x =
    if is_at_last x then Finishes
    else if agrees v now ip x.name (file_owner x.modem x.subscriber) then GoesOn x
    else BreaksOff

abbrev pub way_of_acknowledgement : View → ℕ → Ip4 → ℕ → Option Transfer → Way
way_of_acknowledgement v now ip number None = Denies unknown_transfer
way_of_acknowledgement v now ip number (Some x) =
    if number == x.sent then way_of_last v now ip x else Ignores

abbrev pub way_of : View → Datagram → Bool → Option Transfer → Result Meant PacketFault → Way
way_of v datagram full live (Err fault.Form) = Denies illegal_operation
way_of v datagram full live (Err fault.Mode) = Denies octet_only
way_of v datagram full live (Ok IsOther) = Denies illegal_operation
way_of v datagram full live (Ok Writes) = Denies access_violation
way_of v datagram full live (Ok (Reads name options)) =
    way_of_request v datagram full (request_for name options) live
way_of v datagram full live (Ok (Acknowledges number)) =
    way_of_acknowledgement v datagram.at datagram.from.ip number live
way_of v datagram full live (Ok GivesUp) = Leaves

-- the way of a datagram, by what is read for its peer
unfoldable pub way : View → Transfers → Datagram → Way
way v transfers datagram =
    way_of v datagram (has_no_room transfers) (map.get transfers datagram.from)
    (packet_of datagram.bytes)

-- ---- what each way does

-- the transfers that it leaves, what is sent, and the word of the log
pub record Given : Type 0 where
  pub transfers : Transfers
  pub items : List Sent
  pub word : TftpWord

abbrev pub gives : Transfers → List Sent → TftpWord → Given
gives transfers items word = record { transfers = transfers; items = items; word = word }

abbrev pub error_to : Peer → Denial → List Sent
error_to from denial = packet_to from (error_packet denial.code denial.text) ∷ []

abbrev pub last_to : Peer → Transfer → List Sent
last_to from x = packet_to from (last_packet x) ∷ []

abbrev pub with_transfer : Transfers → Peer → Transfer → Transfers
with_transfer transfers from x = map.insert transfers from x

abbrev pub ended : Transfers → Peer → Transfers
ended transfers from = map.remove transfers from

-- A request that is accepted has its file built at once, and replaces the peer's older transfer.
abbrev pub opened : Transfers → Peer → ReadRequest → Transfer → Given
opened transfers from request x =
    gives (with_transfer transfers from x) (last_to from x) (first_word request.options)

abbrev pub GivesBy : View → Transfers → Datagram → Way → Given → Type 0
GivesBy v transfers datagram (Denies denial) gave =
    gave ≡ gives transfers (error_to datagram.from denial) denial.word
GivesBy v transfers datagram (Repeats x) gave =
    gave
    ≡ gives (with_transfer transfers datagram.from (asked_again datagram.at x))
    (last_to datagram.from x) word.Again
GivesBy v transfers datagram (Accepts request owner) gave =
    (file : List ℕ)
    × (IsBuiltBy v datagram.at datagram.from.ip file
    × (gave ≡ opened transfers datagram.from request (new_transfer datagram request owner file)))
GivesBy v transfers datagram Ignores gave = gave ≡ gives transfers [] word.StaleAck
GivesBy v transfers datagram Finishes gave =
    gave ≡ gives (ended transfers datagram.from) [] word.Done
GivesBy v transfers datagram BreaksOff gave =
    gave
    ≡ gives (ended transfers datagram.from) (error_to datagram.from no_longer_agreed)
    word.Agreement
GivesBy v transfers datagram (GoesOn x) gave =
    gave
    ≡ gives (with_transfer transfers datagram.from (gone_on datagram.at x))
    (last_to datagram.from (gone_on datagram.at x)) (word.Block (suc x.sent))
GivesBy v transfers datagram Leaves gave =
    gave ≡ gives (ended transfers datagram.from) [] word.PeerError

-- what a datagram gives over tables and transfers
unfoldable pub TftpStep : Tables → Transfers → Datagram → Given → Type 0
TftpStep tables transfers datagram gave =
    GivesBy (view tables datagram.from.ip) transfers datagram
    (way (view tables datagram.from.ip) transfers datagram) gave
