-- A read request of a modem whose lease lasts is accepted, and its file is served.
use Rattle.std.proofs.lemmas.Bool.{lt-leb, false_from_ne_true}
use Rattle.std.proofs.lemmas.Slice.Eq.{bytes_eq-Decides}
use Rattle.std.specs.Str.{bytes_eq}
use Rattle.off_transfer_runs.proofs.Whole.{same_modem}
use Rattle.off_boot_laws.proofs.Messages.{and_false}
use Rattle.std.proofs.Common.{if◌then◌else◌, ◌≢◌, ◌⊎◌, inl, inr, ◌&&◌, nat_le, ◌≡◌, ℕ, ◌<◌, Bool, true, false, cond, not, List, Option, Some, None, MatchOption, Ok, refl, ap, subst, ◌∙◌}
use Rattle.std.specs.FinMap as map
use Rattle.off_base.specs.declared.addresses.Peer.{Peer}
use Rattle.off_base.specs.declared.macs.Mac.{Mac}
use Rattle.off_defs.specs.declared.events.Service.TheVariants.{Tftp}
use Rattle.off_defs.specs.declared.events.What.{What}
use Rattle.off_defs.specs.declared.events.What.TheVariants.{Datagram}
use Rattle.off_defs.specs.declared.results.Outcome.{Outcome}
use Rattle.off_defs.specs.declared.results.Outcome.TheVariants.{Did}
use Rattle.off_defs.specs.declared.tables.Modem.{Modem}
use Rattle.off_defs.specs.State.{Tables, State, Transfer, Effect, at_moment}
use Rattle.off_account_rules.specs.Good.{Good}
use Rattle.off_lease_laws.specs.Effects.{bound_until}
use Rattle.off_packets.specs.Packets.{Reads, packet_of, has_option}
use Rattle.off_packets.specs.declared.packets.Options.{Options}
use Rattle.off_transfer_rules.specs.Requests.{datagram_at, request_for, file_owner}
use Rattle.off_transfer_rules.specs.declared.words.TftpWord.TheVariants.{Oack, Block}
use Rattle.off_transfer_rules.specs.View.{View, view, holder}
use Rattle.off_transfer_rules.specs.Transfers.{Transfers, has_no_room, first_word}
use Rattle.off_transfer_rules.specs.Steps.{Way, Denies, Repeats, Accepts, file_not_found, is_repeated, way_for_owner, owner_by_row, way_for_holder, way_anew, way_of_request, way_of, way, Given, GivesBy, TftpStep}
use Rattle.off_transfer_rules.specs.Words.{tftp_line}
use Rattle.off_transfer_laws.specs.Agreement.{Agreement}
use Rattle.off_transfer_laws.proofs.ViewLemmas.{holder_is, live_seen, live_agreed, modem_seen, owner_agreed, good_has_file}
use Rattle.off_book.specs.Step.{Step, Does}
use Rattle.off_book.specs.Tftp.{TftpDid}
use Rattle.off_book.specs.Run.{Turn, effect_of}
use Rattle.off_laws.specs.Leases.{IsBoundUntil, moment_of}
use Rattle.off_transfer_runs.specs.Turns.{packets_to, says_accepted}
use Rattle.off_transfer_runs.specs.Served.{IsAccepted, FileIsServed}
use Rattle.off_transfer_runs.proofs.Runs.{served_at}
use Rattle.off_boot_laws.specs.Stages.{HasPlace, AsksForFile, ReadsAreAccepted}

-- ---- the way of the request

-- there is room, or the peer's own transfer makes way
abbrev MakesWay : Bool → List ℕ → Option Transfer → Type 0
MakesWay full bytes live = MatchOption live (full ≡ false) (λ (x : Transfer). is_repeated bytes x ≡ false)

not_again : (bytes : List ℕ) (x : Transfer) → (x.is_acknowledged ≡ true) ⊎ (x.request ≢ bytes) → is_repeated bytes x ≡ false
not_again bytes x (inl acked) = ap (λ b. not b && bytes_eq x.request bytes) acked
not_again bytes x (inr other) =
    and_false (not x.is_acknowledged) (bytes_eq x.request bytes)
    (false_from_ne_true (bytes_eq x.request bytes) (λ e. other ((bytes_eq-Decides x.request bytes).0 e)))

makes_way : (count : ℕ) (bytes : List ℕ) (live : Option Transfer)
    → MatchOption live (count < 256) (λ (x : Transfer). (x.is_acknowledged ≡ true) ⊎ (x.request ≢ bytes)) → MakesWay (nat_le 256 count) bytes live
makes_way count bytes None room = lt-leb 256 count room
makes_way count bytes (Some x) other = not_again bytes x other

module _ (t : Tables) (now : ℕ) (from : Peer) (bytes name : List ℕ) (asked : Options) (mac : Mac) (owner : ℕ) (good : Good t)
    (a : Agreement t now from.ip name (file_owner mac owner)) where
  abbrev v : View
  v = view t from.ip

  abbrev taken : Way
  taken = Accepts (request_for name asked) (file_owner mac a.modem.subscriber)

  held : holder now v ≡ Some mac
  held = holder_is v now mac (live_seen t now from.ip mac (live_agreed t now from.ip name mac owner a))

  seen : v.modem ≡ Some a.modem
  seen = modem_seen t from.ip mac (owner_agreed t now from.ip name mac owner a) ∙ a.modem_is

  anew : way_anew v now from.ip false (request_for name asked) ≡ taken
  anew =
      ap (way_for_holder v from.ip false (request_for name asked)) held
      ∙ ap (λ (row : Option Modem). way_for_owner v from.ip false (request_for name asked) (owner_by_row mac row)) seen
      ∙ ap (λ b. cond (not b) (Denies file_not_found) taken) (good_has_file t now from.ip name mac owner good a)

  asked_way : (full : Bool) (live : Option Transfer) → MakesWay full bytes live
      → way_of_request v (datagram_at now from bytes) full (request_for name asked) live ≡ taken
  asked_way full None room = ap (λ b. way_anew v now from.ip b (request_for name asked)) room ∙ anew
  asked_way full (Some x) other = ap (λ b. cond b (Repeats x) (way_anew v now from.ip false (request_for name asked))) other ∙ anew

  way_is : (xs : Transfers) → packet_of bytes ≡ Ok (Reads name asked) → HasPlace xs from bytes → way v xs (datagram_at now from bytes) ≡ taken
  unfolding way
  way_is xs read place = ap (way_of v (datagram_at now from bytes) (has_no_room xs) (map.get xs from)) read ∙ asked_way (has_no_room xs) (map.get xs from) (makes_way (map.len xs) bytes (map.get xs from) place)

  word_is : (xs : Transfers) (given : Given) → packet_of bytes ≡ Ok (Reads name asked) → HasPlace xs from bytes → TftpStep t xs (datagram_at now from bytes) given
      → given.word ≡ first_word asked
  unfolding TftpStep
  word_is xs given read place step =
      let opened = subst (λ (w : Way). GivesBy v xs (datagram_at now from bytes) w given) (way_is xs read place) step in
      ap (λ (g : Given). g.word) opened.1.1

says_first : (any : Bool) → says_accepted (tftp_line (if any then Oack else Block 1)) ≡ true
says_first true = refl
says_first false = refl

-- ---- the turn

did_so : (s after : State) (turn : Turn) (from : Peer) (bytes : List ℕ) → Step s turn.event turn.outcome (effect_of turn after)
    → turn.event.what ≡ Datagram Tftp from bytes → turn.outcome ≡ Did → TftpDid (at_moment s turn.event.at.0) from bytes (effect_of turn after)
unfolding Step
did_so s after turn from bytes step came did =
    subst (λ (o : Outcome). Does (at_moment s turn.event.at.0) (Datagram Tftp from bytes) o (effect_of turn after)) did
    (subst (λ (what : What). Does (at_moment s turn.event.at.0) what turn.outcome (effect_of turn after)) came step)

agreed_at : (s : State) (mac : Mac) (peer : Peer) (name : List ℕ) (asked : Options) (turn : Turn) (now expiry : ℕ) (r : AsksForFile s mac peer name asked turn)
    → IsBoundUntil mac peer.ip expiry s → now < expiry → Agreement s.tables now peer.ip name (file_owner mac r.modem.subscriber)
agreed_at s mac peer name asked turn now expiry r bound live = record {
  lease = bound_until mac expiry;
  modem = r.modem;
  site = r.site;
  lease_is = bound;
  bound = refl;
  live = live;
  modem_is = r.modem_is;
  owned = refl;
  site_is = r.site_is;
  named = r.named;
}

pub reads_are_accepted : ReadsAreAccepted
reads_are_accepted s last turn later mac peer name asked expiry good run well r bound live =
    let now = moment_of s turn in
    let agreed = agreed_at s mac peer name asked turn now expiry r bound live in
    let did = did_so s run.0 turn peer r.bytes run.1.0 r.event well.did in
    let word = word_is s.tables now peer r.bytes name asked mac r.modem.subscriber good agreed s.held.transfers did.given r.read r.place did.step in
    let line : turn.said.line ≡ tftp_line (first_word asked) = ap (λ (e : Effect). e.said.line) did.does ∙ ap tftp_line word in
    let accepts : IsAccepted peer name asked turn =
    record { bytes = r.bytes; event = r.event; read = r.read; word = ap says_accepted line ∙ says_first (has_option asked) } in
    let served : FileIsServed s.tables now peer name asked turn later = served_at s turn run.0 last later peer name asked run.1.0 accepts run.1.1 in
    record {
      accepts = accepts;
      served = served;
      own = same_modem s.tables now peer.ip name served.modem mac served.subscriber r.modem.subscriber served.agreed agreed;
      sent = ap (packets_to peer) well.sent ∙ served.opens;
    }
