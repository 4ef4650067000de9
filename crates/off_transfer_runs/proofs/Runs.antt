-- Over a run the file of each accepted read request is served.
use Rattle.std.proofs.Common.{◌≡◌, ℕ, zero, ◌*◌, max, Bool, true, false, if◌then◌else◌, true≢false, List, [], ◌∷◌, drop, Some, Ok, refl, sym, ap, subst, ◌∙◌, arith}
use Rattle.std.specs.Prelude.{find}
use Rattle.std.specs.FinMap as map
use Rattle.off_base.specs.declared.addresses.Peer.{Peer}
use Rattle.off_defs.specs.declared.events.Service.TheVariants.{Tftp}
use Rattle.off_defs.specs.declared.events.What.{What}
use Rattle.off_defs.specs.declared.events.What.TheVariants.{Datagram}
use Rattle.off_defs.specs.declared.results.Outcome.{Outcome}
use Rattle.off_defs.specs.declared.results.Outcome.TheVariants.{Did, Memory, Keeper}
use Rattle.off_defs.specs.State.{Tables, State, Transfer, Effect, at_moment}
use Rattle.off_account_rules.specs.Rows.{lease_in}
use Rattle.off_file_rules.specs.Block.{block}
use Rattle.off_file_rules.specs.File.{IsFile}
use Rattle.off_file_laws.proofs.LawLemmas.{file_is_one, files_boot}
use Rattle.off_packets.specs.Packets.{Reads, packet_of, has_option, options_by}
use Rattle.off_packets.specs.declared.packets.Options.{Options}
use Rattle.off_transfer_rules.specs.Requests.{datagram_at, request_for, file_owner}
use Rattle.off_transfer_rules.specs.View.{view}
use Rattle.off_transfer_rules.specs.Transfers.{size_for, first_number, packet_of_number, last_packet, new_transfer}
use Rattle.off_transfer_rules.specs.Steps.{Given}
use Rattle.off_transfer_rules.specs.Words.{tftp_line}
use Rattle.off_transfer_rules.proofs.PeerLemmas.{inserted_here}
use Rattle.off_transfer_laws.proofs.ViewLemmas.{held_of, live_in, owner_held, file_of_built}
use Rattle.off_transfer_laws.proofs.StepLaws.{accepting_agrees}
use Rattle.off_transfer_laws.proofs.SoundLemmas.{begun_sound, accepted_short}
use Rattle.off_book.specs.Step.{Step, Does}
use Rattle.off_book.specs.Tftp.{TftpDid}
use Rattle.off_book.specs.Run.{Turn, Run, effect_of, moment_after}
use Rattle.off_laws.proofs.RunLaws.{run_tells}
use Rattle.off_laws.proofs.Standings.{runs_have_places}
use Rattle.off_transfer_runs.specs.Turns.{packets_to, is_data, block_in, block_given, says_accepted}
use Rattle.off_transfer_runs.specs.Got.{acked, CountUp, got, is_done}
use Rattle.off_transfer_runs.specs.Served.{IsAccepted, FileIsServed, BlocksGo, FilesOfRuns}
use Rattle.off_transfer_runs.proofs.Packets.{one_packet}
use Rattle.off_transfer_runs.proofs.Lists.{from_of, ahead, Gets, acked_counts, gets}
use Rattle.off_transfer_runs.proofs.Turned.{IsAt, stands}
use Rattle.off_transfer_runs.proofs.Events.{run_goes}
use Rattle.off_transfer_runs.proofs.Accepted.{Begins, begins}

-- ---- the first packet

counts_from : (any : Bool) → from_of (if any then 0 else 1) ≡ 1
counts_from true = refl
counts_from false = refl

counts_first : (asked : Options) → from_of (first_number asked) ≡ 1
counts_first asked = counts_from (has_option asked)

ahead_from : (file : List ℕ) (size : ℕ) (any : Bool) → ahead file size (if any then 0 else 1) ≡ file
ahead_from file size true = refl
ahead_from file size false = let none : zero * size ≡ 0 = omega arith in ap (λ n. drop n file) none

all_ahead : (file : List ℕ) (asked : Options) → ahead file (size_for asked) (first_number asked) ≡ file
all_ahead file asked = ahead_from file (size_for asked) (has_option asked)

block_from : (asked : Options) (file : List ℕ) (size : ℕ) (any : Bool)
    → block file size (if any then 0 else 1) ≡ block_in (find is_data (packet_of_number asked file size (if any then 0 else 1) ∷ []))
block_from asked file size true = refl
block_from asked file size false = refl

first_block : (file : List ℕ) (asked : Options)
    → block file (size_for asked) (first_number asked) ≡ block_in (find is_data (packet_of_number asked file (size_for asked) (first_number asked) ∷ []))
first_block file asked = block_from asked file (size_for asked) (has_option asked)

-- ---- an accepted read request

-- of the datagram's outcomes it's the one in which it was acted on
pub acted_on : (s : State) (outcome : Outcome) (peer : Peer) (bytes : List ℕ) (effect : Effect) → Does s (Datagram Tftp peer bytes) outcome effect
    → says_accepted effect.said.line ≡ true → TftpDid s peer bytes effect
acted_on s Did peer bytes effect p says = p
acted_on s Memory peer bytes effect p says = absurd (true≢false (sym says ∙ ap (λ (e : Effect). says_accepted e.said.line) p))
acted_on s Keeper peer bytes effect p says = absurd (true≢false (sym says ∙ ap (λ (e : Effect). says_accepted e.said.line) p))

module _ (s : State) (turn : Turn) (after last : State) (later : List Turn) (peer : Peer) (bytes name : List ℕ) (asked : Options) where
  module _ (did : TftpDid s peer bytes (effect_of turn after)) (b : Begins (view s.tables peer.ip) s.held.now s.held.transfers peer bytes did.given name asked) where
    unfoldable pub first : Transfer
    first = new_transfer (datagram_at s.held.now peer bytes) (request_for name asked) (file_owner b.mac b.owner) b.file

    pub first_lives : map.get after.held.transfers peer ≡ Some first
    unfolding first
    first_lives =
        ap (λ (e : Effect). map.get e.after.held.transfers peer) did.does
        ∙ ap (λ (g : Given). map.get g.transfers peer) b.gave ∙ inserted_here s.held.transfers peer first

    pub first_at : IsAt b.file (size_for asked) (first_number asked) first
    unfolding first
    first_at = record {
      files = refl;
      sizes = refl;
      sents = refl;
      sound = begun_sound s.held.now peer bytes b.mac b.owner name asked b.file
          (accepted_short s.tables s.held.now peer.ip b.mac b.owner name b.file b.accepting b.built) b.fits;
    }

    pub own_file : IsFile s.tables b.mac s.held.now peer.ip b.file
    own_file =
        file_of_built s.tables s.held.now peer.ip b.mac b.file
        (owner_held s.held.now (lease_in s.tables peer.ip) b.mac
        (live_in s.tables s.held.now peer.ip b.mac (held_of (view s.tables peer.ip) s.held.now b.mac b.accepting.held))) b.built

    opening : packet_of bytes ≡ Ok (Reads name asked) → packets_to peer turn.said.items ≡ packet_of_number asked b.file (size_for asked) (first_number asked) ∷ []
    unfolding first
    opening read =
        ap (λ (e : Effect). packets_to peer e.said.items) did.does ∙ ap (λ (g : Given). packets_to peer g.items) b.gave ∙ one_packet peer (last_packet first)
        ∙ ap (λ (o : Options). packet_of_number o b.file (size_for asked) (first_number asked) ∷ []) (ap options_by read)

    going : Run after later last → BlocksGo peer b.file (size_for asked) (first_number asked) later
    going run = run_goes peer b.file (size_for asked) (first_number asked) after last later run (stands first first_lives first_at)

    getting : packet_of bytes ≡ Ok (Reads name asked) → Run after later last → Gets (got peer (block_given peer turn) later) (is_done peer later) b.file
    getting read run =
        let given : block b.file (size_for asked) (first_number asked) ≡ block_given peer turn =
        first_block b.file asked ∙ sym (ap (λ (ps : List (List ℕ)). block_in (find is_data ps)) (opening read)) in
        subst (λ stood. Gets (got peer stood later) (is_done peer later) b.file) given
        (subst (Gets (got peer (block b.file (size_for asked) (first_number asked)) later) (is_done peer later)) (all_ahead b.file asked)
        (gets b.file (size_for asked) peer (first_number asked) later (going run)))

    served_so : packet_of bytes ≡ Ok (Reads name asked) → Run after later last → FileIsServed s.tables s.held.now peer name asked turn later
    served_so read run =
        let g = getting read run in
        record {
          modem = b.mac;
          subscriber = b.owner;
          file = b.file;
          agreed = accepting_agrees s.tables s.held.now peer.ip b.mac b.owner name b.accepting;
          own = own_file;
          only = λ other is. file_is_one s.tables b.mac s.held.now peer.ip other b.file is own_file;
          boots = files_boot s.tables b.mac s.held.now peer.ip b.file own_file;
          answered = ap (λ (e : Effect). e.said.line) did.does ∙ ap (λ (g : Given). tftp_line g.word) b.gave;
          opens = opening read;
          blocks = going run;
          counts = subst (λ n. CountUp n (acked peer later)) (counts_first asked)
              (acked_counts b.file (size_for asked) peer (first_number asked) later (going run));
          rest = g.rest;
          prefix = g.prefix;
          whole = g.whole;
        }

  pub beginning : (did : TftpDid s peer bytes (effect_of turn after)) → packet_of bytes ≡ Ok (Reads name asked) → says_accepted turn.said.line ≡ true
      → Begins (view s.tables peer.ip) s.held.now s.held.transfers peer bytes did.given name asked
  beginning did read says =
      begins s.tables s.held.now s.held.transfers peer bytes did.given name asked read
      (sym (ap (λ (e : Effect). says_accepted e.said.line) did.does) ∙ says) did.step

  served_did : TftpDid s peer bytes (effect_of turn after) → packet_of bytes ≡ Ok (Reads name asked) → says_accepted turn.said.line ≡ true → Run after later last
      → FileIsServed s.tables s.held.now peer name asked turn later
  served_did did read says run = served_so did (beginning did read says) read run

pub served_at : (s : State) (turn : Turn) (after last : State) (later : List Turn) (peer : Peer) (name : List ℕ) (asked : Options)
    → Step s turn.event turn.outcome (effect_of turn after) → IsAccepted peer name asked turn → Run after later last
    → FileIsServed s.tables (max s.held.now turn.event.at.0) peer name asked turn later
unfolding Step
served_at s turn after last later peer name asked step accepts run =
    served_did (at_moment s turn.event.at.0) turn after last later peer accepts.bytes name asked
    (acted_on (at_moment s turn.event.at.0) turn.outcome peer accepts.bytes (effect_of turn after)
    (subst (λ (w : What). Does (at_moment s turn.event.at.0) w turn.outcome (effect_of turn after)) accepts.event step) accepts.word)
    accepts.read accepts.word run

-- ---- a run as a whole

pub files_of_runs : FilesOfRuns
files_of_runs s last turns run before later turn peer name asked parts accepts =
    let place = runs_have_places s last before (turn ∷ later) (subst (λ (ts : List Turn). Run s ts last) parts run) in
    let tells = run_tells s place.state before place.up_to in
    subst (λ (t : Tables). FileIsServed t (max (moment_after s.held.now before) turn.event.at.0) peer name asked turn later) tells.0
    (subst (λ n. FileIsServed place.state.tables (max n turn.event.at.0) peer name asked turn later) tells.1
    (served_at place.state turn place.onward.0 last later peer name asked place.onward.1.0 accepts place.onward.1.1))
