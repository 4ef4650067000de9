-- What the line of an event says of its outcome.
use Rattle.std.proofs.Common.{◌≡◌, ℕ, ◌<◌, ◌==◌, ◌&&◌, Bool, true, false, if◌then◌else◌, decimal, List, [], ◌++◌, Option, Some, None, codes, nat_eq, refl, sym, ap, ◌∙◌, subst, arith}
use Rattle.std.proofs.lemmas.Bool.Decides.{nat_tests}
use Rattle.std.specs.Prelude.{slice_index}
use Rattle.std.specs.Char.{digit_value}
use Rattle.off_defs.specs.declared.events.Service.TheVariants.{Dhcp, Time, Tftp}
use Rattle.off_defs.specs.declared.events.What.{What}
use Rattle.off_defs.specs.declared.events.What.TheVariants.{Datagram, Piece, Closed, Tick, End}
use Rattle.off_defs.specs.declared.events.Event.{Event}
use Rattle.off_defs.specs.declared.results.Outcome.{Outcome}
use Rattle.off_defs.specs.declared.results.Outcome.TheVariants.{Did, Memory, Keeper}
use Rattle.off_defs.specs.State.{State, Effect}
use Rattle.off_http.specs.Request.{Meaning, Waits, Refused, Asked}
use Rattle.off_clerk_rules.specs.declared.faults.Fault.TheVariants as fault
use Rattle.off_lease_rules.specs.declared.words.DhcpWord.{DhcpWord}
use Rattle.off_lease_rules.specs.declared.words.DhcpWord.TheVariants as word
use Rattle.off_lease_rules.specs.Words.{word_text}
use Rattle.off_base.specs.declared.addresses.Peer.{Peer}
use Rattle.off_transfer_rules.specs.declared.words.TftpWord.{TftpWord}
use Rattle.off_transfer_rules.specs.declared.words.TftpWord.TheVariants as packet
use Rattle.off_transfer_rules.specs.declared.ticks.Ticked.{Ticked}
use Rattle.off_transfer_rules.specs.Words.{tftp_line}
use Rattle.off_lease_rules.specs.Steps.{dhcp_step}
use Rattle.off_cpe_rules.specs.declared.results.DeviceStep.{DeviceStep}
use Rattle.off_cpe_rules.specs.declared.words.DeviceWord.{DeviceWord}
use Rattle.off_cpe_rules.specs.declared.words.DeviceWord.TheVariants as device
use Rattle.off_book.specs.Dhcp.{MessageDid, DatagramDid, device_of, device_line, query_line}
use Rattle.off_query_rules.specs.Asked.{query_of}
use Rattle.off_query_rules.specs.Answers.{query_step}
use Rattle.off_query_rules.specs.declared.words.QueryWord.{QueryWord}
use Rattle.off_query_rules.specs.declared.words.QueryWord.TheVariants as query
use Rattle.off_book.specs.Http.{by_meaning, is_full, TakesPiece}
use Rattle.off_book.specs.Step.{Step, Does, TellsOutcome, service_word}
use Rattle.off_book.proofs.StepLemmas.{failure_tells}
use Rattle.off_laws.specs.Laws.{LineTellsOutcome}
use Rattle.off_laws.proofs.Answers.{BeginsWithDigit, fault_digit, request_digit}

-- The line of an event that was acted on is no other line: their sixth bytes differ.
abbrev pub NoFailure : List ℕ → What → Type 0
NoFailure line what = (line ≡ service_word what ++ codes " memory" → ⊥) × (line ≡ service_word what ++ codes " keeper" → ⊥)

-- two texts differ where they differ at some place
apart_at : (place : ℕ) (xs ys : List ℕ) → nat_eq (slice_index xs place) (slice_index ys place) ≡ false → xs ≡ ys → ⊥
apart_at place xs ys apart same =
    let e : slice_index xs place ≡ slice_index ys place = ap (λ (zs : List ℕ). slice_index zs place) same in
    grind (arith, nat_tests)

pub other_byte : (xs ys : List ℕ) → nat_eq (slice_index xs 5) (slice_index ys 5) ≡ false → xs ≡ ys → ⊥
other_byte xs ys apart same = let e : slice_index xs 5 ≡ slice_index ys 5 = ap (λ (zs : List ℕ). slice_index zs 5) same in grind (arith, nat_tests)

says_line : (what : What) (said line : List ℕ) → nat_eq (slice_index line 5) (slice_index (service_word what ++ codes " memory") 5) ≡ false
    → nat_eq (slice_index line 5) (slice_index (service_word what ++ codes " keeper") 5) ≡ false → said ≡ line → NoFailure said what
says_line what said line memory keeper is =
    (λ same. other_byte line (service_word what ++ codes " memory") memory (sym is ∙ same), λ same. other_byte line (service_word what ++ codes " keeper") keeper (sym is ∙ same))

says : (what : What) (effect : Effect) (line : List ℕ) → nat_eq (slice_index line 5) (slice_index (service_word what ++ codes " memory") 5) ≡ false
    → nat_eq (slice_index line 5) (slice_index (service_word what ++ codes " keeper") 5) ≡ false → effect.said.line ≡ line → NoFailure effect.said.line what
says what effect line memory keeper is = says_line what effect.said.line line memory keeper is

pub line_is : (one other : Effect) → one ≡ other → one.said.line ≡ other.said.line
line_is one other is = ap (λ (e : Effect). e.said.line) is

no_letter : (byte : ℕ) → digit_value byte < 10 → (nat_eq byte 109 ≡ false) × (nat_eq byte 107 ≡ false)
no_letter byte small = (grind (arith, nat_tests), grind (arith, nat_tests))

-- nor is the line of an answer to a clerk, which begins with its status
pub status_tells : (conn : ℕ) (piece words line : List ℕ) → BeginsWithDigit words → line ≡ codes "http " ++ words → TellsOutcome (Piece conn piece) Did line
status_tells conn piece words line digit is =
    let no = no_letter (slice_index words 0) digit in
    says_line (Piece conn piece) line (codes "http " ++ words) no.0 no.1 is

digit_says : (conn : ℕ) (piece words : List ℕ) (effect : Effect) → BeginsWithDigit words → effect.said.line ≡ codes "http " ++ words → NoFailure effect.said.line (Piece conn piece)
digit_says conn piece words effect digit is = status_tells conn piece words effect.said.line digit is

meaning_line : (s : State) (conn : ℕ) (piece bytes : List ℕ) (effect : Effect) (meaning : Meaning) → effect ≡ by_meaning s conn bytes meaning
    → NoFailure effect.said.line (Piece conn piece)
meaning_line s conn piece bytes effect Waits is = says (Piece conn piece) effect (codes "http wait") refl refl (line_is effect _ is)
meaning_line s conn piece bytes effect (Refused f) is = digit_says conn piece _ effect (fault_digit (fault.Http f)) (line_is effect _ is)
meaning_line s conn piece bytes effect (Asked method target body) is =
    digit_says conn piece _ effect (request_digit s.tables s.held.now method target body) (line_is effect _ is)

piece_line : (full : Bool) (s : State) (conn : ℕ) (piece : List ℕ) (effect : Effect) → TakesPiece full s conn piece effect → NoFailure effect.said.line (Piece conn piece)
piece_line true s conn piece effect takes = says (Piece conn piece) effect (codes "http busy") refl refl (line_is effect _ takes)
piece_line false s conn piece effect takes = meaning_line s conn piece _ effect takes.meaning takes.does

-- no word of a DHCP datagram begins as those of the two failures
pub word_says : (w : DhcpWord) → (nat_eq (slice_index (codes "dhcp " ++ word_text w) 5) 109 ≡ false) × (nat_eq (slice_index (codes "dhcp " ++ word_text w) 5) 107 ≡ false)
word_says word.Offer = (refl, refl)
word_says word.Ack = (refl, refl)
word_says word.Declined = (refl, refl)
word_says word.Released = (refl, refl)
word_says word.Short = (refl, refl)
word_says word.Long = (refl, refl)
word_says word.NotRequest = (refl, refl)
word_says word.Hardware = (refl, refl)
word_says word.Cookie = (refl, refl)
word_says word.OptionCut = (refl, refl)
word_says word.NoType = (refl, refl)
word_says word.Overload = (refl, refl)
word_says word.NoSite = (refl, refl)
word_says word.NotServed = (refl, refl)
word_says word.RequestForm = (refl, refl)
word_says word.PartCut = (refl, refl)
word_says word.RelayMismatch = (refl, refl)
word_says word.NotAModem = (refl, refl)
word_says word.NoRelayPool = (refl, refl)
word_says word.UnknownModem = (refl, refl)
word_says word.SerialMismatch = (refl, refl)
word_says word.OtherServer = (refl, refl)
word_says word.PoolFull = (refl, refl)
word_says word.NoRecord = (refl, refl)
word_says word.NotYourAddress = (refl, refl)

-- nor does one of a device's message
device_says : (w : DeviceWord) → (nat_eq (slice_index (device_line w) 5) 109 ≡ false) × (nat_eq (slice_index (device_line w) 5) 107 ≡ false)
device_says device.Offer = (refl, refl)
device_says device.Ack = (refl, refl)
device_says device.Declined = (refl, refl)
device_says device.Released = (refl, refl)
device_says device.NotServed = (refl, refl)
device_says device.Form = (refl, refl)
device_says device.NoPool = (refl, refl)
device_says device.Suspended = (refl, refl)
device_says device.Offline = (refl, refl)
device_says device.OtherServer = (refl, refl)
device_says device.Limit = (refl, refl)
device_says device.PoolFull = (refl, refl)
device_says device.NoRecord = (refl, refl)
device_says device.NotYours = (refl, refl)

-- nor does one of a query
query_says : (w : QueryWord) → (nat_eq (slice_index (query_line w) 5) 109 ≡ false) × (nat_eq (slice_index (query_line w) 5) 107 ≡ false)
query_says query.Relay = (refl, refl)
query_says query.Form = (refl, refl)
query_says query.Active = (refl, refl)
query_says query.Unassigned = (refl, refl)
query_says query.Unknown = (refl, refl)

-- nor is the line of a TFTP datagram either of them: it differs from them in its sixth byte or in the seventh
tftp_apart : (w : TftpWord) → (tftp_line w ≡ codes "tftp memory" → ⊥) × (tftp_line w ≡ codes "tftp keeper" → ⊥)
tftp_apart packet.Form = (apart_at 5 (codes "tftp form") (codes "tftp memory") refl, apart_at 5 (codes "tftp form") (codes "tftp keeper") refl)
tftp_apart packet.Write = (apart_at 5 (codes "tftp write") (codes "tftp memory") refl, apart_at 5 (codes "tftp write") (codes "tftp keeper") refl)
tftp_apart packet.Mode = (apart_at 6 (codes "tftp mode") (codes "tftp memory") refl, apart_at 5 (codes "tftp mode") (codes "tftp keeper") refl)
tftp_apart packet.Again = (apart_at 5 (codes "tftp again") (codes "tftp memory") refl, apart_at 5 (codes "tftp again") (codes "tftp keeper") refl)
tftp_apart packet.NoLease = (apart_at 5 (codes "tftp no-lease") (codes "tftp memory") refl, apart_at 5 (codes "tftp no-lease") (codes "tftp keeper") refl)
tftp_apart packet.Agreement = (apart_at 5 (codes "tftp agreement") (codes "tftp memory") refl, apart_at 5 (codes "tftp agreement") (codes "tftp keeper") refl)
tftp_apart packet.Name = (apart_at 5 (codes "tftp name") (codes "tftp memory") refl, apart_at 5 (codes "tftp name") (codes "tftp keeper") refl)
tftp_apart packet.Full = (apart_at 5 (codes "tftp full") (codes "tftp memory") refl, apart_at 5 (codes "tftp full") (codes "tftp keeper") refl)
tftp_apart packet.Oack = (apart_at 5 (codes "tftp oack") (codes "tftp memory") refl, apart_at 5 (codes "tftp oack") (codes "tftp keeper") refl)
tftp_apart (packet.Block number) = (apart_at 5 (tftp_line (packet.Block number)) (codes "tftp memory") refl, apart_at 5 (tftp_line (packet.Block number)) (codes "tftp keeper") refl)
tftp_apart packet.Unknown = (apart_at 5 (codes "tftp unknown") (codes "tftp memory") refl, apart_at 5 (codes "tftp unknown") (codes "tftp keeper") refl)
tftp_apart packet.StaleAck = (apart_at 5 (codes "tftp stale-ack") (codes "tftp memory") refl, apart_at 5 (codes "tftp stale-ack") (codes "tftp keeper") refl)
tftp_apart packet.Done = (apart_at 5 (codes "tftp done") (codes "tftp memory") refl, apart_at 5 (codes "tftp done") (codes "tftp keeper") refl)
tftp_apart packet.PeerError = (apart_at 5 (codes "tftp peer-error") (codes "tftp memory") refl, apart_at 5 (codes "tftp peer-error") (codes "tftp keeper") refl)

pub message_tells : (from : Peer) (bytes : List ℕ) (w : DhcpWord) (line : List ℕ) → line ≡ codes "dhcp " ++ word_text w → TellsOutcome (Datagram Dhcp from bytes) Did line
message_tells from bytes w line is = says_line (Datagram Dhcp from bytes) line (codes "dhcp " ++ word_text w) (word_says w).0 (word_says w).1 is

pub device_tells : (from : Peer) (bytes : List ℕ) (w : DeviceWord) (line : List ℕ) → line ≡ device_line w → TellsOutcome (Datagram Dhcp from bytes) Did line
device_tells from bytes w line is = says_line (Datagram Dhcp from bytes) line (device_line w) (device_says w).0 (device_says w).1 is

pub query_tells : (from : Peer) (bytes : List ℕ) (w : QueryWord) (line : List ℕ) → line ≡ query_line w → TellsOutcome (Datagram Dhcp from bytes) Did line
query_tells from bytes w line is = says_line (Datagram Dhcp from bytes) line (query_line w) (query_says w).0 (query_says w).1 is

pub packet_tells : (from : Peer) (bytes : List ℕ) (w : TftpWord) (line : List ℕ) → line ≡ tftp_line w → TellsOutcome (Datagram Tftp from bytes) Did line
packet_tells from bytes w line is = (λ same. (tftp_apart w).0 (sym is ∙ same), λ same. (tftp_apart w).1 (sym is ∙ same))

abbrev pub tick_text : Bool → Ticked → List ℕ
tick_text silent ticked = if silent then [] else codes "tick again " ++ decimal ticked.again ++ codes " closed " ++ decimal ticked.closed

tick_says : (effect : Effect) (ticked : Ticked) (silent : Bool) → effect.said.line ≡ tick_text silent ticked → NoFailure effect.said.line Tick
tick_says effect ticked true is = says Tick effect [] refl refl is
tick_says effect ticked false is = says Tick effect (tick_text false ticked) refl refl is

message_line : (s : State) (from : Peer) (bytes : List ℕ) (effect : Effect) (step : Option DeviceStep) → MessageDid s bytes effect step → NoFailure effect.said.line (Datagram Dhcp from bytes)
message_line s from bytes effect (Some step) p = device_tells from bytes step.word effect.said.line (line_is effect _ p)
message_line s from bytes effect None p = message_tells from bytes (dhcp_step s.tables s.held.now bytes).word effect.said.line (line_is effect _ p)

datagram_line : (s : State) (from : Peer) (bytes : List ℕ) (effect : Effect) (asked : Option (List ℕ)) → DatagramDid s bytes effect asked
    → NoFailure effect.said.line (Datagram Dhcp from bytes)
datagram_line s from bytes effect (Some q) p = query_tells from bytes (query_step s.tables s.held.now q).word effect.said.line (line_is effect _ p)
datagram_line s from bytes effect None p = message_line s from bytes effect (device_of s.tables s.held.now bytes) p

pub does_line : (s : State) (what : What) (effect : Effect) → Does s what Did effect → NoFailure effect.said.line what
does_line s (Datagram Dhcp from bytes) effect p = datagram_line s from bytes effect (query_of bytes) p
does_line s (Datagram Time from bytes) effect p = says (Datagram Time from bytes) effect (codes "time sent") refl refl (line_is effect _ p)
does_line s (Datagram Tftp from bytes) effect p = packet_tells from bytes p.given.word effect.said.line (line_is effect _ p.does)
does_line s (Piece conn piece) effect p = piece_line (is_full s.held.connections conn) s conn piece effect p
does_line s (Closed conn) effect p = says (Closed conn) effect (codes "http closed") refl refl (line_is effect _ p)
does_line s Tick effect p = tick_says effect p.ticked (p.ticked.again == 0 && p.ticked.closed == 0) (line_is effect _ p.does)
does_line s End effect p = says End effect [] refl refl (line_is effect _ p)

-- the lines of the two failures differ too
front : (what : What) → (service_word what ++ codes " memory" ≡ service_word what ++ codes " keeper") → ⊥
front (Datagram Dhcp from bytes) same = other_byte (codes "dhcp memory") (codes "dhcp keeper") refl same
front (Datagram Time from bytes) same = other_byte (codes "time memory") (codes "time keeper") refl same
front (Datagram Tftp from bytes) same = other_byte (codes "tftp memory") (codes "tftp keeper") refl same
front (Piece conn bytes) same = other_byte (codes "http memory") (codes "http keeper") refl same
front (Closed conn) same = other_byte (codes "http memory") (codes "http keeper") refl same
front Tick same = other_byte (codes "tick memory") (codes "tick keeper") refl same
front End same = other_byte (codes " memory") (codes " keeper") refl same

abbrev ToldBy : State → Event → Outcome → Effect → Type 0
ToldBy s event outcome effect =
    (effect.said.line ≡ service_word event.what ++ codes " memory" → outcome ≡ Memory) × (effect.said.line ≡ service_word event.what ++ codes " keeper" → outcome ≡ Keeper)

outcome_of : (s : State) (event : Event) (outcome : Outcome) (effect : Effect) → Step s event outcome effect → ToldBy s event outcome effect
unfolding Step
outcome_of s event Did effect p = let no = does_line _ event.what effect p in (λ line. absurd (no.0 line), λ line. absurd (no.1 line))
outcome_of s event Memory effect p = (λ line. refl, λ line. absurd (front event.what (sym (failure_tells s event Memory effect p (λ did. cc)) ∙ line)))
outcome_of s event Keeper effect p = (λ line. absurd (front event.what (sym line ∙ failure_tells s event Keeper effect p (λ did. cc))), λ line. refl)

line_of : (s : State) (event : Event) (outcome other : Outcome) (effect : Effect) → Step s event outcome effect → (other ≡ Did → ⊥) → outcome ≡ other
    → TellsOutcome event.what other effect.said.line
line_of s event outcome other effect p failed is =
    subst (λ o. TellsOutcome event.what o effect.said.line) is (failure_tells s event outcome effect p (λ did. failed (sym is ∙ did)))

pub line_tells_outcome : LineTellsOutcome
line_tells_outcome s event outcome effect p =
    let told = outcome_of s event outcome effect p in
    ((told.0, λ is. line_of s event outcome Memory effect p (λ did. cc) is), (told.1, λ is. line_of s event outcome Keeper effect p (λ did. cc) is))
