-- A transfer whose peer answers goes on to its last block.
use Rattle.std.proofs.Common.{◌≡◌, ◌≢◌, ◌⊎◌, inl, inr, ℕ, zero, suc, ◌+◌, ◌≤◌, ◌==◌, Bool, true, false, true≢false, cond, if◌then◌else◌, List, [], Option, Some, None, MatchOption, Result, Ok, refl, sym, ap, subst, ◌∙◌, arith, not, codes}
use Rattle.std.proofs.lemmas.Bool.{eq-eqb, eqb-true, and_from}
use Rattle.std.proofs.lemmas.Slice.Eq.{bytes_eq-Decides}
use Rattle.std.specs.Str.{bytes_eq}
use Rattle.std.specs.FinMap as map
use Rattle.off_base.specs.declared.addresses.Peer.{Peer}
use Rattle.off_base.specs.declared.macs.Mac.{Mac}
use Rattle.off_defs.specs.declared.events.Service.TheVariants.{Dhcp, Time, Tftp}
use Rattle.off_defs.specs.declared.events.What.{What}
use Rattle.off_defs.specs.declared.events.What.TheVariants.{Datagram, Piece, Closed, Tick, End}
use Rattle.off_defs.specs.declared.results.Outcome.{Outcome}
use Rattle.off_defs.specs.declared.results.Outcome.TheVariants.{Did, Memory, Keeper}
use Rattle.off_defs.specs.State.{Tables, State, Transfer, Effect, only_line}
use Rattle.off_packets.specs.Packets.{Meant, Reads, Acknowledges, packet_of}
use Rattle.off_packets.specs.declared.packets.Options.{Options}
use Rattle.off_transfer_rules.specs.Requests.{datagram_at, request_for, file_owner}
use Rattle.off_transfer_rules.specs.View.{View, view, agrees}
use Rattle.off_transfer_rules.specs.Transfers.{Transfers, has_no_room, is_at_last, gone_on, asked_again, sent_again}
use Rattle.off_transfer_rules.specs.Steps.{Way, Repeats, Finishes, Ignores, BreaksOff, GoesOn, is_repeated, way_anew, way_of_last, way_of, way, Given, gives, with_transfer, last_to, ended, GivesBy, TftpStep}
use Rattle.off_transfer_rules.specs.Words.{tftp_line}
use Rattle.off_packets.specs.declared.faults.PacketFault.{PacketFault}
use Rattle.off_transfer_rules.specs.declared.words.TftpWord.TheVariants as word
use Rattle.off_transfer_rules.proofs.PeerLemmas.{same_peer, own_peer, inserted_here}
use Rattle.off_transfer_laws.specs.Agreement.{Agreement}
use Rattle.off_transfer_laws.specs.Laws.{Ticks, waits, goes_again, closes}
use Rattle.off_transfer_laws.proofs.OriginLemmas.{next_block_goes}
use Rattle.off_transfer_laws.proofs.SoundLemmas.{asked_again_sound, sent_again_sound}
use Rattle.off_transfer_laws.proofs.TickLaws.{tick_changes}
use Rattle.off_book.specs.Step.{Does}
use Rattle.off_book.specs.Tftp.{TftpDid, TickDid}
use Rattle.off_laws.specs.Parts.{Part, untouched, a_connection, by_request, by_message, by_packet, by_tick, part_of, Changes}
use Rattle.off_transfer_runs.specs.Turns.{Fate, Remains, Moves, Ends, is_peer, fate_of, fate_by}
use Rattle.off_transfer_runs.specs.Got.{is_done_by}
use Rattle.off_transfer_runs.specs.Answering.{Aside, Passes, Speaks, ask, Acknowledged, IsStale, IsRequestAgain, IsNothingNew, AnswersBy}
use Rattle.off_transfer_runs.proofs.Turned.{IsAt, gone_on_at}
use Rattle.off_transfer_runs.proofs.Events.{memory_stays, keeper_stays}

-- ---- the transfer of the peer: packet k stands out, and so many Ticks more don't close it
pub record Lives (file : List ℕ) (size : ℕ) (request : List ℕ) (first : ℕ) (name : List ℕ) (modem : Mac) (owner : ℕ) (k ticks : ℕ) (live : Option Transfer) : Type 0 where
  pub x : Transfer
  pub live_is : live ≡ Some x
  pub at : IsAt file size k x
  pub names : x.name ≡ name
  pub modems : x.modem ≡ modem
  pub owners : x.subscriber ≡ owner
  pub requests : x.request ≡ request
  pub past : first ≤ k
  pub fresh : k ≡ first → x.is_acknowledged ≡ false
  pub left : x.resends + ticks ≤ 5

-- a turn ends it by its last block, or it goes on
pub data Answered (file : List ℕ) (size : ℕ) (request : List ℕ) (first : ℕ) (name : List ℕ) (modem : Mac) (owner : ℕ) (f : Fate) (live : Option Transfer) (Later : ℕ → ℕ → Type 0) : Type 0 where
  finished : (number : ℕ) → f ≡ Ends number → Answered file size request first name modem owner f live Later
  onward : (k ticks : ℕ) → ((later : Bool) → is_done_by f later ≡ later) → Lives file size request first name modem owner k ticks live → Later k ticks
      → Answered file size request first name modem owner f live Later

unfinished : (f : Fate) → f ≡ Remains → (later : Bool) → is_done_by f later ≡ later
unfinished f e later = ap (λ (g : Fate). is_done_by g later) e

moving : (f : Fate) (number : ℕ) → f ≡ Moves number → (later : Bool) → is_done_by f later ≡ later
moving f number e later = ap (λ (g : Fate). is_done_by g later) e

-- ---- the ways of an acknowledgement

module _ (v : View) (now : ℕ) (from : Peer) (xs : Transfers) (bytes : List ℕ) (x : Transfer) where
  finishing : map.get xs from ≡ Some x → packet_of bytes ≡ Ok (Acknowledges x.sent) → is_at_last x ≡ true → way v xs (datagram_at now from bytes) ≡ Finishes
  unfolding way
  finishing live read last =
      (λ i. way_of v (datagram_at now from bytes) (has_no_room xs) (live i) (read i))
      ∙ ap (λ b. cond b (way_of_last v now from.ip x) Ignores) (eq-eqb x.sent x.sent refl)
      ∙ ap (λ b. cond b Finishes (cond (agrees v now from.ip x.name (file_owner x.modem x.subscriber)) (GoesOn x) BreaksOff)) last

  ignored_by : (number : ℕ) (same : Bool) → (number == x.sent) ≡ same → number ≢ x.sent → cond same (way_of_last v now from.ip x) Ignores ≡ Ignores
  ignored_by number true e other = absurd (other (eqb-true number x.sent e))
  ignored_by number false e other = refl

  ignoring : (number : ℕ) → map.get xs from ≡ Some x → packet_of bytes ≡ Ok (Acknowledges number) → number ≢ x.sent → way v xs (datagram_at now from bytes) ≡ Ignores
  unfolding way
  ignoring number live read other =
      (λ i. way_of v (datagram_at now from bytes) (has_no_room xs) (live i) (read i)) ∙ ignored_by number (number == x.sent) refl other

  again_is : x.is_acknowledged ≡ false → x.request ≡ bytes → is_repeated bytes x ≡ true
  again_is fresh same = and_from (not x.is_acknowledged) (bytes_eq x.request bytes) (ap not fresh) ((bytes_eq-Decides x.request bytes).1 same)

  repeating : (name : List ℕ) (asked : Options) → map.get xs from ≡ Some x → packet_of bytes ≡ Ok (Reads name asked) → x.is_acknowledged ≡ false → x.request ≡ bytes
      → way v xs (datagram_at now from bytes) ≡ Repeats x
  unfolding way
  repeating name asked live read fresh same =
      (λ i. way_of v (datagram_at now from bytes) (has_no_room xs) (live i) (read i))
      ∙ ap (λ b. cond b (Repeats x) (way_anew v now from.ip false (request_for name asked))) (again_is fresh same)

finished_step : (t : Tables) (now : ℕ) (xs : Transfers) (from : Peer) (bytes : List ℕ) (given : Given) (x : Transfer) → map.get xs from ≡ Some x
    → packet_of bytes ≡ Ok (Acknowledges x.sent) → is_at_last x ≡ true → TftpStep t xs (datagram_at now from bytes) given → given ≡ gives (ended xs from) [] word.Done
unfolding TftpStep
finished_step t now xs from bytes given x live read last step =
    subst (λ (w : Way). GivesBy (view t from.ip) xs (datagram_at now from bytes) w given) (finishing (view t from.ip) now from xs bytes x live read last) step

ignored_step : (t : Tables) (now : ℕ) (xs : Transfers) (from : Peer) (bytes : List ℕ) (given : Given) (x : Transfer) (number : ℕ) → map.get xs from ≡ Some x
    → packet_of bytes ≡ Ok (Acknowledges number) → number ≢ x.sent → TftpStep t xs (datagram_at now from bytes) given → given ≡ gives xs [] word.StaleAck
unfolding TftpStep
ignored_step t now xs from bytes given x number live read other step =
    subst (λ (w : Way). GivesBy (view t from.ip) xs (datagram_at now from bytes) w given) (ignoring (view t from.ip) now from xs bytes x number live read other) step

repeated_step : (t : Tables) (now : ℕ) (xs : Transfers) (from : Peer) (bytes : List ℕ) (given : Given) (x : Transfer) (name : List ℕ) (asked : Options)
    → map.get xs from ≡ Some x → packet_of bytes ≡ Ok (Reads name asked) → x.is_acknowledged ≡ false → x.request ≡ bytes → TftpStep t xs (datagram_at now from bytes) given
    → given ≡ gives (with_transfer xs from (asked_again now x)) (last_to from x) word.Again
unfolding TftpStep
repeated_step t now xs from bytes given x name asked live read fresh same step =
    subst (λ (w : Way). GivesBy (view t from.ip) xs (datagram_at now from bytes) w given) (repeating (view t from.ip) now from xs bytes x name asked live read fresh same) step

-- ---- what a turn does

NotOf : Peer → Part → Type 0
NotOf peer untouched = Unit {0}
NotOf peer (a_connection conn) = Unit {0}
NotOf peer (by_request conn) = Unit {0}
NotOf peer (by_message bytes) = Unit {0}
NotOf peer (by_packet from) = peer ≢ from
NotOf peer by_tick = ⊥

stays_by : (peer : Peer) (part : Part) (s : State) (effect : Effect) → Changes part s effect → NotOf peer part
    → map.get effect.after.held.transfers peer ≡ map.get s.held.transfers peer
unfolding NotOf
stays_by peer untouched s effect c other = ap (λ (xs : Transfers). map.get xs peer) c.transfers
stays_by peer (a_connection conn) s effect c other = ap (λ (xs : Transfers). map.get xs peer) c.transfers
stays_by peer (by_request conn) s effect c other = ap (λ (xs : Transfers). map.get xs peer) c.transfers
stays_by peer (by_message bytes) s effect c other = ap (λ (xs : Transfers). map.get xs peer) c.transfers
stays_by peer (by_packet from) s effect c other = c.others peer other
stays_by peer by_tick s effect c other = absurd other

apart_by : (peer from : Peer) → is_peer peer from ≡ false → peer ≢ from
apart_by peer from e is = true≢false (sym (own_peer peer) ∙ ap (is_peer peer) is ∙ e)

aside_by : (same : Bool) (bytes : List ℕ) → (if same then Speaks bytes else Aside) ≡ Aside → same ≡ false
aside_by true bytes e = cc
aside_by false bytes e = refl

not_of : (peer : Peer) (what : What) (outcome : Outcome) → ask peer what ≡ Aside → NotOf peer (part_of what outcome)
unfolding NotOf
not_of peer (Datagram Dhcp from bytes) Did e = tt
not_of peer (Datagram Dhcp from bytes) Memory e = tt
not_of peer (Datagram Dhcp from bytes) Keeper e = tt
not_of peer (Datagram Time from bytes) outcome e = tt
not_of peer (Datagram Tftp from bytes) Did e = apart_by peer from (aside_by (is_peer peer from) bytes e)
not_of peer (Datagram Tftp from bytes) Memory e = tt
not_of peer (Datagram Tftp from bytes) Keeper e = tt
not_of peer (Piece conn bytes) Did e = tt
not_of peer (Piece conn bytes) Memory e = tt
not_of peer (Piece conn bytes) Keeper e = tt
not_of peer (Closed conn) outcome e = tt
not_of peer Tick outcome e = cc
not_of peer End outcome e = tt

no_fate : (peer : Peer) (what : What) (line : List ℕ) → ask peer what ≡ Aside → fate_by peer what line ≡ Remains
no_fate peer (Datagram Dhcp from bytes) line e = refl
no_fate peer (Datagram Time from bytes) line e = refl
no_fate peer (Datagram Tftp from bytes) line e = ap (λ b. if b then fate_of (packet_of bytes) line else Remains) (aside_by (is_peer peer from) bytes e)
no_fate peer (Piece conn bytes) line e = refl
no_fate peer (Closed conn) line e = refl
no_fate peer Tick line e = refl
no_fate peer End line e = refl

module _ (peer : Peer) (file : List ℕ) (size : ℕ) (request : List ℕ) (first : ℕ) (name : List ℕ) (modem : Mac) (owner : ℕ)
    (asked : Options) (read : packet_of request ≡ Ok (Reads name asked)) where
  abbrev Agree : Tables → ℕ → Type 0
  Agree tables now = Agreement tables now peer.ip name (file_owner modem owner)

  abbrev LivesOn : ℕ → ℕ → Option Transfer → Type 0
  LivesOn k ticks live = Lives file size request first name modem owner k ticks live

  abbrev Answers : Fate → Option Transfer → (ℕ → ℕ → Type 0) → Type 0
  Answers f live Later = Answered file size request first name modem owner f live Later

  same_lives : (k ticks : ℕ) (one other : Option Transfer) → other ≡ one → LivesOn k ticks one → LivesOn k ticks other
  same_lives k ticks one other e l = subst (LivesOn k ticks) (sym e) l

  aside : (s : State) (what : What) (outcome : Outcome) (effect : Effect) (k ticks : ℕ) (Later : ℕ → ℕ → Type 0) → ask peer what ≡ Aside
      → Changes (part_of what outcome) s effect → LivesOn k ticks (map.get s.held.transfers peer) → Later k ticks
      → Answers (fate_by peer what effect.said.line) (map.get effect.after.held.transfers peer) Later
  aside s what outcome effect k ticks Later e changes lives later =
      onward k ticks (unfinished (fate_by peer what effect.said.line) (no_fate peer what effect.said.line e))
      (same_lives k ticks (map.get s.held.transfers peer) (map.get effect.after.held.transfers peer)
      (stays_by peer (part_of what outcome) s effect changes (not_of peer what outcome e)) lives) later

  -- the time that passes
  passed_by : (now k ticks : ℕ) (x : Transfer) (after : Option Transfer) → IsAt file size k x → x.name ≡ name → x.modem ≡ modem → x.subscriber ≡ owner
      → x.request ≡ request → first ≤ k → (k ≡ first → x.is_acknowledged ≡ false) → x.resends + suc ticks ≤ 5 → Ticks now x after → LivesOn k ticks after
  passed_by now k ticks x after at names modems owners requests past fresh left (waits due is) = record {
    x = x;
    live_is = is;
    at = at;
    names = names;
    modems = modems;
    owners = owners;
    requests = requests;
    past = past;
    fresh = fresh;
    left = omega (arith, left);
  }
  passed_by now k ticks x after at names modems owners requests past fresh left (goes_again due few is) = record {
    x = sent_again now x;
    live_is = is;
    at = record { files = at.files; sizes = at.sizes; sents = at.sents; sound = sent_again_sound now x few at.sound };
    names = names;
    modems = modems;
    owners = owners;
    requests = requests;
    past = past;
    fresh = fresh;
    left = omega (arith, left);
  }
  passed_by now k ticks x after at names modems owners requests past fresh left (closes due many is) = absurd (omega (arith, left, many))

  ticks_of : (now : ℕ) (live after : Option Transfer) (x : Transfer) → live ≡ Some x → MatchOption live (after ≡ None) (λ y. Ticks now y after) → Ticks now x after
  ticks_of now None after x e m = cc
  ticks_of now (Some y) after x e m = let same : y ≡ x = cc in subst (λ z. Ticks now z after) same m

  fewer : (k ticks : ℕ) (live : Option Transfer) → LivesOn k (suc ticks) live → LivesOn k ticks live
  fewer k ticks live l = record {
    x = l.x;
    live_is = l.live_is;
    at = l.at;
    names = l.names;
    modems = l.modems;
    owners = l.owners;
    requests = l.requests;
    past = l.past;
    fresh = l.fresh;
    left = omega (arith, l.left);
  }

  ticked : (s : State) (effect : Effect) (k ticks : ℕ) → TickDid s effect → LivesOn k (suc ticks) (map.get s.held.transfers peer)
      → LivesOn k ticks (map.get effect.after.held.transfers peer)
  ticked s effect k ticks did l =
      passed_by s.held.now k ticks l.x (map.get effect.after.held.transfers peer) l.at l.names l.modems l.owners l.requests l.past l.fresh l.left
      (subst (λ (o : Option Transfer). Ticks s.held.now l.x o) (sym (ap (λ (e : Effect). map.get e.after.held.transfers peer) did.does))
      (ticks_of s.held.now (map.get s.held.transfers peer) (map.get did.transfers peer) l.x l.live_is
      (tick_changes s.held.now s.held.transfers did.transfers did.items did.ticked did.step peer)))

  passes : (s : State) (outcome : Outcome) (effect : Effect) (k ticks : ℕ) (Later : ℕ → ℕ → Type 0) → Does s Tick outcome effect
      → LivesOn k ticks (map.get s.held.transfers peer) → AnswersBy request first Passes (Agree s.tables s.held.now) outcome k ticks Later
      → Answers Remains (map.get effect.after.held.transfers peer) Later
  passes s outcome effect k zero Later does lives later = absurd later
  passes s Did effect k (suc ticks) Later does lives later = onward k ticks (λ b. refl) (ticked s effect k ticks does lives) later
  passes s Memory effect k (suc ticks) Later does lives later =
      onward k ticks (λ b. refl)
      (same_lives k ticks (map.get s.held.transfers peer) (map.get effect.after.held.transfers peer)
      (ap (λ (e : Effect). map.get e.after.held.transfers peer) does) (fewer k ticks (map.get s.held.transfers peer) lives)) later
  passes s Keeper effect k (suc ticks) Later does lives later = absurd does

  -- the peer's own datagram
  agreed_as : (tables : Tables) (now : ℕ) (x : Transfer) → x.name ≡ name → x.modem ≡ modem → x.subscriber ≡ owner → Agree tables now
      → Agreement tables now peer.ip x.name (file_owner x.modem x.subscriber)
  agreed_as tables now x names modems owners agree =
      subst (λ n. Agreement tables now peer.ip n (file_owner x.modem x.subscriber)) (sym names)
      (subst (λ m. Agreement tables now peer.ip name (file_owner m x.subscriber)) (sym modems) (subst (λ o. Agreement tables now peer.ip name (file_owner modem o)) (sym owners) agree))

  advances : (s : State) (bytes : List ℕ) (effect : Effect) (k : ℕ) (Later : ℕ → ℕ → Type 0) → TftpDid s peer bytes effect
      → (x : Transfer) → map.get s.held.transfers peer ≡ Some x → IsAt file size k x → x.name ≡ name → x.modem ≡ modem → x.subscriber ≡ owner
      → x.request ≡ request → first ≤ k → packet_of bytes ≡ Ok (Acknowledges x.sent) → Agree s.tables s.held.now → Later (suc k) 5 → (last : Bool) → is_at_last x ≡ last
      → Answers (fate_of (packet_of bytes) effect.said.line) (map.get effect.after.held.transfers peer) Later
  advances s bytes effect k Later did x live at names modems owners requests past read agree later true last =
      let gave = finished_step s.tables s.held.now s.held.transfers peer bytes did.given x live read last did.step in
      finished x.sent
      (ap (λ (e : Effect). fate_of (packet_of bytes) e.said.line) did.does ∙ ap (λ (g : Given). fate_of (packet_of bytes) (tftp_line g.word)) gave
      ∙ ap (λ (r : Result Meant PacketFault). fate_of r (tftp_line word.Done)) read)
  advances s bytes effect k Later did x live at names modems owners requests past read agree later false last =
      let gave = next_block_goes s.tables s.held.transfers (datagram_at s.held.now peer bytes) did.given x live read last
      (agreed_as s.tables s.held.now x names modems owners agree) did.step in
      onward (suc k) 5
      (moving (fate_of (packet_of bytes) effect.said.line) x.sent
      (ap (λ (e : Effect). fate_of (packet_of bytes) e.said.line) did.does ∙ ap (λ (g : Given). fate_of (packet_of bytes) (tftp_line g.word)) gave
      ∙ ap (λ (r : Result Meant PacketFault). fate_of r (tftp_line (word.Block (suc x.sent)))) read))
      (record {
        x = gone_on s.held.now x;
        live_is = ap (λ (e : Effect). map.get e.after.held.transfers peer) did.does
            ∙ ap (λ (g : Given). map.get g.transfers peer) gave ∙ inserted_here s.held.transfers peer (gone_on s.held.now x);
        at = gone_on_at file size k s.held.now x at last;
        names = names;
        modems = modems;
        owners = owners;
        requests = requests;
        past = omega (arith, past);
        fresh = λ e. absurd (omega (arith, past, e));
        left = omega arith;
      }) later

  -- what the office couldn't act on
  unsaid : (bytes : List ℕ) (s : State) (effect : Effect) (line : List ℕ) (k ticks : ℕ) (Later : ℕ → ℕ → Type 0) → effect ≡ only_line s line
      → fate_of (packet_of bytes) line ≡ Remains → LivesOn k ticks (map.get s.held.transfers peer) → Later k ticks
      → Answers (fate_of (packet_of bytes) effect.said.line) (map.get effect.after.held.transfers peer) Later
  unsaid bytes s effect line k ticks Later does remains l later =
      onward k ticks
      (unfinished (fate_of (packet_of bytes) effect.said.line) (ap (λ (e : Effect). fate_of (packet_of bytes) e.said.line) does ∙ remains))
      (same_lives k ticks (map.get s.held.transfers peer) (map.get effect.after.held.transfers peer)
      (ap (λ (e : Effect). map.get e.after.held.transfers peer) does) l) later

  stale : (s : State) (bytes : List ℕ) (effect : Effect) (k ticks : ℕ) (Later : ℕ → ℕ → Type 0) → TftpDid s peer bytes effect
      → LivesOn k ticks (map.get s.held.transfers peer) → IsStale bytes k → Later k ticks
      → Answers (fate_of (packet_of bytes) effect.said.line) (map.get effect.after.held.transfers peer) Later
  stale s bytes effect k ticks Later did l is later =
      let other : is.number ≢ l.x.sent = λ e. is.other (e ∙ l.at.sents) in
      let gave = ignored_step s.tables s.held.now s.held.transfers peer bytes did.given l.x is.number l.live_is is.read other did.step in
      onward k ticks
      (unfinished (fate_of (packet_of bytes) effect.said.line)
      (ap (λ (e : Effect). fate_of (packet_of bytes) e.said.line) did.does ∙ ap (λ (g : Given). fate_of (packet_of bytes) (tftp_line g.word)) gave
      ∙ ap (λ (r : Result Meant PacketFault). fate_of r (tftp_line word.StaleAck)) is.read))
      (same_lives k ticks (map.get s.held.transfers peer) (map.get effect.after.held.transfers peer)
      (ap (λ (e : Effect). map.get e.after.held.transfers peer) did.does ∙ ap (λ (g : Given). map.get g.transfers peer) gave) l) later

  -- its read request again
  repeats : (s : State) (bytes : List ℕ) (effect : Effect) (k ticks : ℕ) (Later : ℕ → ℕ → Type 0) → TftpDid s peer bytes effect
      → LivesOn k ticks (map.get s.held.transfers peer) → IsRequestAgain request first bytes k → Later k ticks
      → Answers (fate_of (packet_of bytes) effect.said.line) (map.get effect.after.held.transfers peer) Later
  repeats s bytes effect k ticks Later did l again later =
      let reads : packet_of bytes ≡ Ok (Reads name asked) = ap packet_of again.same ∙ read in
      let gave = repeated_step s.tables s.held.now s.held.transfers peer bytes did.given l.x name asked l.live_is reads (l.fresh again.early) (l.requests ∙ sym again.same) did.step in
      onward k ticks
      (unfinished (fate_of (packet_of bytes) effect.said.line)
      (ap (λ (e : Effect). fate_of (packet_of bytes) e.said.line) did.does ∙ ap (λ (g : Given). fate_of (packet_of bytes) (tftp_line g.word)) gave
      ∙ ap (λ (r : Result Meant PacketFault). fate_of r (tftp_line word.Again)) reads))
      (record {
        x = asked_again s.held.now l.x;
        live_is = ap (λ (e : Effect). map.get e.after.held.transfers peer) did.does
            ∙ ap (λ (g : Given). map.get g.transfers peer) gave ∙ inserted_here s.held.transfers peer (asked_again s.held.now l.x);
        at = record { files = l.at.files; sizes = l.at.sizes; sents = l.at.sents; sound = asked_again_sound s.held.now l.x l.at.sound };
        names = l.names;
        modems = l.modems;
        owners = l.owners;
        requests = l.requests;
        past = l.past;
        fresh = l.fresh;
        left = l.left;
      }) later

  says : (s : State) (bytes : List ℕ) (effect : Effect) (k ticks : ℕ) (Later : ℕ → ℕ → Type 0) → TftpDid s peer bytes effect
      → LivesOn k ticks (map.get s.held.transfers peer)
      → (Acknowledged (Agree s.tables s.held.now) bytes k × Later (suc k) 5) ⊎ (IsNothingNew request first bytes k × Later k ticks)
      → Answers (fate_of (packet_of bytes) effect.said.line) (map.get effect.after.held.transfers peer) Later
  says s bytes effect k ticks Later did l (inl (acks, later)) =
      advances s bytes effect k Later did l.x l.live_is l.at l.names l.modems l.owners l.requests l.past
      (acks.read ∙ sym (ap (λ n. Ok (Acknowledges n)) l.at.sents)) acks.agree later (is_at_last l.x) refl
  says s bytes effect k ticks Later did l (inr (inl is, later)) = stale s bytes effect k ticks Later did l is later
  says s bytes effect k ticks Later did l (inr (inr again, later)) = repeats s bytes effect k ticks Later did l again later

  sends : (s : State) (outcome : Outcome) (bytes : List ℕ) (effect : Effect) (k ticks : ℕ) (Later : ℕ → ℕ → Type 0) → Does s (Datagram Tftp peer bytes) outcome effect
      → LivesOn k ticks (map.get s.held.transfers peer) → AnswersBy request first (Speaks bytes) (Agree s.tables s.held.now) outcome k ticks Later
      → Answers (fate_of (packet_of bytes) effect.said.line) (map.get effect.after.held.transfers peer) Later
  sends s Did bytes effect k ticks Later does l answers = says s bytes effect k ticks Later does l answers
  sends s Memory bytes effect k ticks Later does l later =
      unsaid bytes s effect (codes "tftp memory") k ticks Later does (memory_stays (packet_of bytes)) l later
  sends s Keeper bytes effect k ticks Later does l later =
      unsaid bytes s effect (codes "tftp keeper") k ticks Later does (keeper_stays (packet_of bytes)) l later

  came : (s : State) (outcome : Outcome) (from : Peer) (bytes : List ℕ) (effect : Effect) (k ticks : ℕ) (Later : ℕ → ℕ → Type 0) (same : Bool) → is_peer peer from ≡ same
      → Does s (Datagram Tftp from bytes) outcome effect → Changes (part_of (Datagram Tftp from bytes) outcome) s effect → LivesOn k ticks (map.get s.held.transfers peer)
      → AnswersBy request first (if same then Speaks bytes else Aside) (Agree s.tables s.held.now) outcome k ticks Later
      → Answers (fate_by peer (Datagram Tftp from bytes) effect.said.line) (map.get effect.after.held.transfers peer) Later
  came s outcome from bytes effect k ticks Later true e does changes l answers =
      let here : from ≡ peer = sym (same_peer peer from e) in
      subst (λ b. Answers (if b then fate_of (packet_of bytes) effect.said.line else Remains) (map.get effect.after.held.transfers peer) Later) (sym e)
      (sends s outcome bytes effect k ticks Later (subst (λ (p : Peer). Does s (Datagram Tftp p bytes) outcome effect) here does) l answers)
  came s outcome from bytes effect k ticks Later false e does changes l later =
      aside s (Datagram Tftp from bytes) outcome effect k ticks Later (ap (λ b. if b then Speaks bytes else Aside) e) changes l later

  pub turn_answers : (s : State) (what : What) (outcome : Outcome) (effect : Effect) (k ticks : ℕ) (Later : ℕ → ℕ → Type 0) → Does s what outcome effect
      → Changes (part_of what outcome) s effect → LivesOn k ticks (map.get s.held.transfers peer)
      → AnswersBy request first (ask peer what) (Agree s.tables s.held.now) outcome k ticks Later
      → Answers (fate_by peer what effect.said.line) (map.get effect.after.held.transfers peer) Later
  turn_answers s (Datagram Dhcp from bytes) outcome effect k ticks Later does changes l later =
      aside s (Datagram Dhcp from bytes) outcome effect k ticks Later refl changes l later
  turn_answers s (Datagram Time from bytes) outcome effect k ticks Later does changes l later =
      aside s (Datagram Time from bytes) outcome effect k ticks Later refl changes l later
  turn_answers s (Datagram Tftp from bytes) outcome effect k ticks Later does changes l answers =
      came s outcome from bytes effect k ticks Later (is_peer peer from) refl does changes l answers
  turn_answers s (Piece conn bytes) outcome effect k ticks Later does changes l later = aside s (Piece conn bytes) outcome effect k ticks Later refl changes l later
  turn_answers s (Closed conn) outcome effect k ticks Later does changes l later = aside s (Closed conn) outcome effect k ticks Later refl changes l later
  turn_answers s Tick outcome effect k ticks Later does changes l answers = passes s outcome effect k ticks Later does l answers
  turn_answers s End outcome effect k ticks Later does changes l later = aside s End outcome effect k ticks Later refl changes l later
