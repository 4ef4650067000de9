-- What a turn acknowledges is the client's from then on.
use Rattle.std.proofs.Common.{◌≡◌, ◌≢◌, ◌⊎◌, inl, inr, ℕ, List, [], ◌∷◌, Option, Some, None, Ok, codes, refl, sym, ap, subst, ◌∙◌}
use Rattle.std.specs.Prelude.{bytes_eq}
use Rattle.std.specs.List.{find}
use Rattle.off_base.specs.declared.addresses.Peer.{Peer}
use Rattle.off_defs.specs.declared.events.Service.TheVariants.{Dhcp}
use Rattle.off_defs.specs.declared.events.What.{What}
use Rattle.off_defs.specs.declared.events.What.TheVariants.{Datagram}
use Rattle.off_defs.specs.declared.results.Outcome.{Outcome}
use Rattle.off_defs.specs.declared.results.Outcome.TheVariants.{Did, Memory, Keeper}
use Rattle.off_defs.specs.State.{State, Effect, at_moment}
use Rattle.off_dhcp.specs.Datagram.{Received, message_of}
use Rattle.off_account_rules.specs.Rows.{lease_in}
use Rattle.off_asking.specs.Asking.{client}
use Rattle.off_lease_rules.specs.Steps.{lease_step, dhcp_step}
use Rattle.off_lease_rules.specs.declared.words.DhcpWord.{DhcpWord}
use Rattle.off_lease_rules.specs.declared.words.DhcpWord.TheVariants as word
use Rattle.off_lease_laws.specs.Effects.{IsBoundBy}
use Rattle.off_lease_laws.proofs.LawLemmas.{messages_do}
use Rattle.off_lease_laws.proofs.EffectLemmas.{acks_bind}
use Rattle.off_query_rules.specs.Asked.{query_of}
use Rattle.off_query_rules.specs.Answers.{query_step}
use Rattle.off_query_rules.specs.declared.words.QueryWord.{QueryWord}
use Rattle.off_query_rules.specs.declared.words.QueryWord.TheVariants as query
use Rattle.off_cpe_rules.specs.declared.results.DeviceStep.{DeviceStep}
use Rattle.off_cpe_rules.specs.declared.words.DeviceWord.{DeviceWord}
use Rattle.off_cpe_rules.specs.declared.words.DeviceWord.TheVariants as device
use Rattle.off_book.specs.Dhcp.{MessageDid, DatagramDid, device_of, device_line, replies_of, dhcp_line, dhcp_effect, query_line}
use Rattle.off_book.specs.Step.{Step, Does}
use Rattle.off_book.specs.Run.{Turn, effect_of}
use Rattle.off_laws.specs.Leases.{LinesTellWords, QueriesSayNone, DevicesSayNone, AcknowledgedIsGiven, moment_of}
use Rattle.off_laws.proofs.Lines.{other_byte, line_is}
use Rattle.off_laws.proofs.StepLaws.{step_good}
use Rattle.off_laws.proofs.Outlasting.{bindings_outlast}

-- a word is found again by its line, so no two words have one line
words : List DhcpWord
words =
    word.Offer
    ∷ word.Ack
    ∷ word.Declined
    ∷ word.Released
    ∷ word.Short
    ∷ word.Long
    ∷ word.NotRequest
    ∷ word.Hardware
    ∷ word.Cookie
    ∷ word.OptionCut
    ∷ word.NoType
    ∷ word.Overload
    ∷ word.NoSite
    ∷ word.NotServed
    ∷ word.RequestForm
    ∷ word.PartCut
    ∷ word.RelayMismatch
    ∷ word.NotAModem
    ∷ word.NoRelayPool
    ∷ word.UnknownModem
    ∷ word.SerialMismatch
    ∷ word.OtherServer
    ∷ word.PoolFull
    ∷ word.NoRecord
    ∷ word.NotYourAddress
    ∷ []

word_with : List ℕ → Option DhcpWord
word_with line = find (λ said. bytes_eq (dhcp_line said) line) words

found : (said : DhcpWord) → word_with (dhcp_line said) ≡ Some said
unfolding word_with words
found word.Offer = refl
found word.Ack = refl
found word.Declined = refl
found word.Released = refl
found word.Short = refl
found word.Long = refl
found word.NotRequest = refl
found word.Hardware = refl
found word.Cookie = refl
found word.OptionCut = refl
found word.NoType = refl
found word.Overload = refl
found word.NoSite = refl
found word.NotServed = refl
found word.RequestForm = refl
found word.PartCut = refl
found word.RelayMismatch = refl
found word.NotAModem = refl
found word.NoRelayPool = refl
found word.UnknownModem = refl
found word.SerialMismatch = refl
found word.OtherServer = refl
found word.PoolFull = refl
found word.NoRecord = refl
found word.NotYourAddress = refl

pub lines_tell_words : LinesTellWords
lines_tell_words one other same =
    let both : ◌≡◌ {A = Option DhcpWord} (Some one) (Some other) = sym (found one) ∙ ap word_with same ∙ found other in
    cc

-- no line of a query is a message's: found by that line is no word
no_words : (said : QueryWord) → word_with (query_line said) ≡ None
unfolding word_with words
no_words query.Relay = refl
no_words query.Form = refl
no_words query.Active = refl
no_words query.Unassigned = refl
no_words query.Unknown = refl

pub queries_say_none : QueriesSayNone
queries_say_none said other same =
    let both : ◌≡◌ {A = Option DhcpWord} None (Some other) = sym (no_words said) ∙ ap word_with same ∙ found other in
    cc

-- a line of a device's is a modem's only where the message is of a kind that isn't served
abbrev FindsNone : DeviceWord → Type 0
FindsNone said = (word_with (device_line said) ≡ None) ⊎ (word_with (device_line said) ≡ Some word.NotServed)

few_words : (said : DeviceWord) → FindsNone said
unfolding word_with words
few_words device.Offer = inl refl
few_words device.Ack = inl refl
few_words device.Declined = inl refl
few_words device.Released = inl refl
few_words device.NotServed = inr refl
few_words device.Form = inl refl
few_words device.NoPool = inl refl
few_words device.Suspended = inl refl
few_words device.Offline = inl refl
few_words device.OtherServer = inl refl
few_words device.Limit = inl refl
few_words device.PoolFull = inl refl
few_words device.NoRecord = inl refl
few_words device.NotYours = inl refl

few_lines : (said : DeviceWord) (other : DhcpWord) → other ≢ word.NotServed → device_line said ≡ dhcp_line other → FindsNone said → ⊥
few_lines said other apart same (inl none) =
    let both : ◌≡◌ {A = Option DhcpWord} None (Some other) = sym none ∙ ap word_with same ∙ found other in
    cc
few_lines said other apart same (inr one) =
    let both : ◌≡◌ {A = Option DhcpWord} (Some word.NotServed) (Some other) = sym one ∙ ap word_with same ∙ found other in
    let is : other ≡ word.NotServed = cc in
    apart is

pub devices_say_none : DevicesSayNone
devices_say_none said other apart same = few_lines said other apart same (few_words said)

-- a datagram whose line has a word of modems alone was taken as a modem's message
message_acted : (s : State) (bytes : List ℕ) (effect : Effect) (said : DhcpWord) (step : Option DeviceStep) → said ≢ word.NotServed → MessageDid s bytes effect step → effect.said.line ≡ dhcp_line said
    → effect ≡ dhcp_effect s (dhcp_step s.tables s.held.now bytes)
message_acted s bytes effect said (Some step) apart does line = absurd (devices_say_none step.word said apart (sym (line_is effect _ does) ∙ line))
message_acted s bytes effect said None apart does line = does

pub datagram_acted : (s : State) (bytes : List ℕ) (effect : Effect) (said : DhcpWord) (asked : Option (List ℕ)) → said ≢ word.NotServed → DatagramDid s bytes effect asked
    → effect.said.line ≡ dhcp_line said → effect ≡ dhcp_effect s (dhcp_step s.tables s.held.now bytes)
datagram_acted s bytes effect said (Some q) apart does line = absurd (queries_say_none (query_step s.tables s.held.now q).word said (sym (line_is effect _ does) ∙ line))
datagram_acted s bytes effect said None apart does line = message_acted s bytes effect said (device_of s.tables s.held.now bytes) apart does line

-- a turn that acknowledges was acted on
acted_on : (s : State) (from : Peer) (bytes : List ℕ) (outcome : Outcome) (effect : Effect) → Does s (Datagram Dhcp from bytes) outcome effect
    → effect.said.line ≡ codes "dhcp ack" → effect ≡ dhcp_effect s (dhcp_step s.tables s.held.now bytes)
acted_on s from bytes Did effect does line = datagram_acted s bytes effect word.Ack (query_of bytes) (λ same. cc) does line
acted_on s from bytes Memory effect does line = absurd (other_byte (codes "dhcp memory") (codes "dhcp ack") refl (sym (line_is effect _ does) ∙ line))
acted_on s from bytes Keeper effect does line = absurd (other_byte (codes "dhcp keeper") (codes "dhcp ack") refl (sym (line_is effect _ does) ∙ line))

step_acts : (s after : State) (turn : Turn) (from : Peer) (bytes : List ℕ) → Step s turn.event turn.outcome (effect_of turn after)
    → turn.event.what ≡ Datagram Dhcp from bytes → turn.said.line ≡ codes "dhcp ack"
    → effect_of turn after ≡ dhcp_effect (at_moment s turn.event.at.0) (dhcp_step s.tables (moment_of s turn) bytes)
unfolding Step
step_acts s after turn from bytes step came line =
    acted_on (at_moment s turn.event.at.0) from bytes turn.outcome (effect_of turn after)
    (subst (λ (what : What). Does (at_moment s turn.event.at.0) what turn.outcome (effect_of turn after)) came step) line

-- and so it did what the message asks
message_acts : (s after : State) (turn : Turn) (m : Received) (from : Peer) (bytes : List ℕ) → Step s turn.event turn.outcome (effect_of turn after)
    → turn.event.what ≡ Datagram Dhcp from bytes → message_of bytes ≡ Ok m → turn.said.line ≡ codes "dhcp ack"
    → effect_of turn after ≡ dhcp_effect (at_moment s turn.event.at.0) (lease_step s.tables (moment_of s turn) m)
message_acts s after turn m from bytes step came read line =
    step_acts s after turn from bytes step came line
    ∙ ap (dhcp_effect (at_moment s turn.event.at.0)) (messages_do s.tables (moment_of s turn) bytes m read)

pub acknowledged_is_given : AcknowledgedIsGiven
acknowledged_is_given s last turn turns m good run takes line unserved =
    let is = message_acts s run.0 turn m takes.from takes.bytes run.1.0 takes.came takes.read line in
    let said = lines_tell_words (lease_step s.tables (moment_of s turn) m).word word.Ack (sym (line_is (effect_of turn run.0) _ is) ∙ line) in
    let acked : IsBoundBy s.tables (moment_of s turn) m (lease_step s.tables (moment_of s turn) m) = acks_bind s.tables (moment_of s turn) m said in
    record {
      site = acked.site;
      pool = acked.pool;
      address = acked.address;
      site_is = acked.site_is;
      pool_is = acked.pool_is;
      claim = acked.claim;
      told = ap (λ (e : Effect). e.said.items) is ∙ ap replies_of acked.reply;
      bound = λ live.
          bindings_outlast run.0 last turns (client m) acked.address _ (step_good s turn.event turn.outcome (effect_of turn run.0) run.1.0 good) run.1.1
          (ap (λ (e : Effect). lease_in e.after.tables acked.address) is ∙ acked.lease) unserved live;
    }
