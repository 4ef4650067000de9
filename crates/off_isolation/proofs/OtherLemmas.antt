-- What is no event of an address gives it nothing from the TFTP port, or turns it away.
use Rattle.std.proofs.Common.{◌≡◌, ℕ, ◌==◌, ◌⊎◌, inl, inr, ◌&&◌, Bool, true, false, cond, not, List, [], ◌∷◌, ◌++◌, Option, Some, None, option_and_then, option_map, Result, Ok, Err, if◌then◌else◌, refl, sym, ap, ◌∙◌}
use Rattle.std.proofs.lemmas.Bool.{leb-true}
use Rattle.std.specs.List.{filter}
use Rattle.std.specs.FinMap as map
use Rattle.off_base.specs.declared.addresses.Ip4.{Ip4}
use Rattle.off_base.specs.declared.addresses.Peer.{Peer}
use Rattle.off_base.specs.declared.macs.Mac.{Mac}
use Rattle.off_defs.specs.declared.events.Service.TheVariants.{Dhcp, Time, Tftp}
use Rattle.off_defs.specs.declared.events.What.{What}
use Rattle.off_defs.specs.declared.events.What.TheVariants.{Datagram, Piece, Closed, Tick, End}
use Rattle.off_defs.specs.declared.results.Outcome.{Outcome}
use Rattle.off_defs.specs.declared.results.Outcome.TheVariants.{Did, Memory, Keeper}
use Rattle.off_defs.specs.declared.results.Sent.{Sent}
use Rattle.off_defs.specs.declared.results.Sent.TheVariants as sent
use Rattle.off_defs.specs.declared.tables.Lease.{Lease}
use Rattle.off_defs.specs.declared.tables.Modem.{Modem}
use Rattle.off_defs.specs.declared.tables.Pool.{Pool}
use Rattle.off_defs.specs.declared.tables.Site.{Site}
use Rattle.off_defs.specs.State.{Tables, Transfer, State, Effect, at_moment}
use Rattle.off_dhcp.specs.Datagram.{Received, message_of}
use Rattle.off_dhcp.specs.declared.faults.DhcpFault.{DhcpFault}
use Rattle.off_http.specs.Request.{Meaning, Waits, Refused, Asked}
use Rattle.off_asking.specs.Asking.{is_discover, is_request, is_decline}
use Rattle.off_lease_rules.specs.Free.{case_of}
use Rattle.off_asking.specs.Claims.{refused_by}
use Rattle.off_lease_rules.specs.Rules.{rules_for}
use Rattle.off_lease_rules.specs.Steps.{offer_to, reply_to_refused, offers, acknowledges, declines, releases, accepts, unless_refused, lease_step_for, step_of, lease_step, dhcp_step}
use Rattle.off_lease_rules.specs.declared.cases.Case.{Case}
use Rattle.off_lease_rules.specs.declared.words.DhcpWord.{DhcpWord}
use Rattle.off_lease_rules.specs.declared.words.DhcpWord.TheVariants as dhcp
use Rattle.off_packets.specs.Packets.{Meant, Reads, Writes, Acknowledges, GivesUp, IsOther, packet_of, has_option}
use Rattle.off_packets.specs.declared.packets.Options.{Options}
use Rattle.off_transfer_rules.specs.Requests.{datagram_at, request_for, file_owner}
use Rattle.off_transfer_rules.specs.declared.words.TftpWord.TheVariants.{Oack, Block}
use Rattle.off_transfer_rules.specs.View.{View, view, holder, agrees}
use Rattle.off_transfer_rules.specs.Transfers.{Transfers, has_no_room, is_at_last, packet_to}
use Rattle.off_transfer_rules.specs.Steps.{Way, Denies, Repeats, Accepts, Ignores, Finishes, BreaksOff, GoesOn, Leaves, file_not_found, too_many_transfers, is_repeated, has_file, way_for_owner, owner_by_row, way_for_holder, way_anew, way_of_last, way_of, way, Given, error_to, GivesBy, TftpStep}
use Rattle.off_transfer_rules.specs.Words.{tftp_line}
use Rattle.off_packets.specs.declared.faults.PacketFault.{PacketFault}
use Rattle.off_packets.specs.declared.faults.PacketFault.TheVariants as fault
use Rattle.off_transfer_laws.specs.Laws.{IsAnswerTo}
use Rattle.off_transfer_laws.proofs.StepLaws.{answers_go_back}
use Rattle.off_book.specs.Http.{heard_of, by_meaning, is_full, TakesPiece}
use Rattle.off_query_rules.specs.Asked.{query_of}
use Rattle.off_query_rules.specs.Answers.{query_step}
use Rattle.off_cpe_rules.specs.Steps.{step_behind}
use Rattle.off_cpe_rules.specs.declared.results.DeviceStep.{DeviceStep}
use Rattle.off_book.specs.Dhcp.{MessageDid, DatagramDid, device_of, device_effect, replies_of}
use Rattle.off_laws.proofs.Devices.{device_told}
use Rattle.off_laws.proofs.Replies.{device_goes}
use Rattle.off_book.specs.Tftp.{TftpDid}
use Rattle.off_book.specs.Step.{Step, Does}
use Rattle.off_book.specs.Run.{effect_of}
use Rattle.off_laws.proofs.Queries.{IsOfDhcp, reply_goes}
use Rattle.off_isolation.specs.Own.{is_at, Came, says_full, happening_by}
use Rattle.off_isolation.specs.Others.{goes_by_tftp, IsTurnedAway, NothingElseGoes}

abbrev Quiet : Ip4 → List Sent → Type 0
Quiet ip items = filter (goes_by_tftp ip) items ≡ []

-- ---- a DHCP reply goes from another port

module _ (ip : Ip4) (m : Received) (c : Case) where
  offer_quiet : (kind : ℕ) (site : Option Site) (pool : Option Pool) (chosen : Option Ip4)
      → Quiet ip (replies_of (option_and_then (λ (s : Site). option_and_then (λ (p : Pool). option_map (offer_to kind m s p) chosen) pool) site))
  offer_quiet kind None pool chosen = refl
  offer_quiet kind (Some site) None chosen = refl
  offer_quiet kind (Some site) (Some pool) None = refl
  offer_quiet kind (Some site) (Some pool) (Some address) = refl

  nak_quiet : (site : Option Site) (w : DhcpWord) → c.site ≡ site → Quiet ip (replies_of (reply_to_refused m c w))
  nak_quiet None dhcp.NotYourAddress e = ap (λ (o : Option Site). filter (goes_by_tftp ip) (replies_of (reply_to_refused m (record c { site = o }) dhcp.NotYourAddress))) e
  nak_quiet (Some site) dhcp.NotYourAddress e = ap (λ (o : Option Site). filter (goes_by_tftp ip) (replies_of (reply_to_refused m (record c { site = o }) dhcp.NotYourAddress))) e
  nak_quiet site _ e = refl

  accepted_quiet : (now : ℕ) (chosen : Option Ip4) (lease : Option Lease) (discover request decline : Bool)
      → Quiet ip (replies_of (if discover then offers now m c chosen lease else if request then acknowledges now m c chosen else if decline then declines now m chosen else releases m chosen).reply)
  accepted_quiet now chosen lease true request decline = offer_quiet 2 c.site c.pool chosen
  accepted_quiet now chosen lease false true decline = offer_quiet 5 c.site c.pool chosen
  accepted_quiet now chosen lease false false true = refl
  accepted_quiet now chosen lease false false false = refl

  judged_quiet : (now : ℕ) (chosen : Option Ip4) (lease : Option Lease) (refused : Option DhcpWord)
      → Quiet ip (replies_of (unless_refused m c (accepts now m c chosen lease) refused).reply)
  judged_quiet now chosen lease None = accepted_quiet now chosen lease (is_discover m) (is_request m) (is_decline m)
  judged_quiet now chosen lease (Some w) = nak_quiet c.site w refl

  settled_quiet : (now : ℕ) (chosen : Option Ip4) (lease : Option Lease) → Quiet ip (replies_of (lease_step_for now m c chosen lease).reply)
  unfolding lease_step_for
  settled_quiet now chosen lease = judged_quiet now chosen lease (refused_by (rules_for m c chosen))

message_quiet : (ip : Ip4) (t : Tables) (now : ℕ) (read : Result Received DhcpFault) → Quiet ip (replies_of (step_of t now read).reply)
unfolding lease_step
message_quiet ip t now (Ok m) = settled_quiet ip m (case_of t m) now _ _
message_quiet ip t now (Err f) = refl

-- nor does an answer to a query go from it, or to a device's message
reply_quiet : (ip : Ip4) (reply : Option Sent) → IsOfDhcp reply → Quiet ip (replies_of reply)
reply_quiet ip None goes = refl
reply_quiet ip (Some (sent.Datagram Dhcp to bytes)) goes = refl
reply_quiet ip (Some (sent.Datagram Time to bytes)) goes = absurd goes
reply_quiet ip (Some (sent.Datagram Tftp to bytes)) goes = absurd goes
reply_quiet ip (Some (sent.Answer conn bytes)) goes = absurd goes
reply_quiet ip (Some (sent.Close conn)) goes = absurd goes

dhcp_quiet : (ip : Ip4) (t : Tables) (now : ℕ) (bytes : List ℕ) → Quiet ip (replies_of (dhcp_step t now bytes).reply)
unfolding dhcp_step
dhcp_quiet ip t now bytes = message_quiet ip t now (message_of bytes)

-- ---- a word `full`

-- a way that refuses so was chosen since there was no room and no transfer of the peer
abbrev FullWhere : Bool → Option Transfer → Way → Type 0
FullWhere full live (Denies denial) = says_full (tftp_line denial.word) ≡ true → (full ≡ true) × (live ≡ None) × (denial ≡ too_many_transfers)
FullWhere full live other = Unit {0}

module _ (v : View) (now : ℕ) (ip : Ip4) (full : Bool) (live : Option Transfer) where
  full_judged : (served no_room : Bool) (mac : Mac) (owner : ℕ) (name : List ℕ) (asked : Options) → (no_room ≡ true → (full ≡ true) × (live ≡ None))
      → FullWhere full live (if not served then Denies file_not_found else if no_room then Denies too_many_transfers else Accepts (request_for name asked) (file_owner mac owner))
  full_judged false no_room mac owner name asked room = λ says. cc
  full_judged true true mac owner name asked room = λ says. ((room refl).0, (room refl).1, refl)
  full_judged true false mac owner name asked room = tt

  full_for_modem : (no_room : Bool) → (no_room ≡ true → (full ≡ true) × (live ≡ None)) → (name : List ℕ) (asked : Options) (mac : Mac) (modem : Option Modem)
      → FullWhere full live (way_for_owner v ip no_room (request_for name asked) (owner_by_row mac modem))
  full_for_modem no_room room name asked mac None = λ says. cc
  full_for_modem no_room room name asked mac (Some modem) = full_judged (has_file v ip name mac) no_room mac modem.subscriber name asked room

  full_for_holder : (no_room : Bool) → (no_room ≡ true → (full ≡ true) × (live ≡ None)) → (name : List ℕ) (asked : Options) (held : Option Mac)
      → FullWhere full live (way_for_holder v ip no_room (request_for name asked) held)
  full_for_holder no_room room name asked None = λ says. cc
  full_for_holder no_room room name asked (Some mac) = full_for_modem no_room room name asked mac v.modem

  full_anew : (no_room : Bool) → (no_room ≡ true → (full ≡ true) × (live ≡ None)) → (name : List ℕ) (asked : Options)
      → FullWhere full live (way_anew v now ip no_room (request_for name asked))
  full_anew no_room room name asked = full_for_holder no_room room name asked (holder now v)

  full_again : (x : Transfer) (name : List ℕ) (asked : Options) (again : Bool) → FullWhere full live (if again then Repeats x else way_anew v now ip false (request_for name asked))
  full_again x name asked true = tt
  full_again x name asked false = full_anew false (λ e. cc) name asked

  full_at_last : (x : Transfer) (last agreed : Bool) → FullWhere full live (if last then Finishes else if agreed then GoesOn x else BreaksOff)
  full_at_last x true agreed = tt
  full_at_last x false true = tt
  full_at_last x false false = tt

  full_last : (x : Transfer) (same : Bool) → FullWhere full live (if same then way_of_last v now ip x else Ignores)
  full_last x true = full_at_last x (is_at_last x) (agrees v now ip x.name (file_owner x.modem x.subscriber))
  full_last x false = tt

full_where : (v : View) (now : ℕ) (from : Peer) (full : Bool) (bytes : List ℕ) (live : Option Transfer) (read : Result Meant PacketFault)
    → FullWhere full live (way_of v (datagram_at now from bytes) full live read)
full_where v now from full bytes live (Err fault.Form) = λ says. cc
full_where v now from full bytes live (Err fault.Mode) = λ says. cc
full_where v now from full bytes live (Ok IsOther) = λ says. cc
full_where v now from full bytes live (Ok Writes) = λ says. cc
full_where v now from full bytes live (Ok GivesUp) = tt
full_where v now from full bytes None (Ok (Reads name asked)) = full_anew v now from.ip full None full (λ e. (e, refl)) name asked
full_where v now from full bytes (Some x) (Ok (Reads name asked)) = full_again v now from.ip full (Some x) x name asked (is_repeated bytes x)
full_where v now from full bytes None (Ok (Acknowledges number)) = λ says. cc
full_where v now from full bytes (Some x) (Ok (Acknowledges number)) = full_last v now from.ip full (Some x) x (number == x.sent)

full_way : (v : View) (now : ℕ) (xs : Transfers) (from : Peer) (bytes : List ℕ) → FullWhere (has_no_room xs) (map.get xs from) (way v xs (datagram_at now from bytes))
unfolding way
full_way v now xs from bytes = full_where v now from (has_no_room xs) bytes (map.get xs from) (packet_of bytes)

-- what is refused so
pub record IsFull (xs : Transfers) (from : Peer) (given : Given) : Type 0 where
  pub no_room : has_no_room xs ≡ true
  pub without : map.get xs from ≡ None
  pub items : given.items ≡ error_to from too_many_transfers

first_not_full : (any : Bool) → says_full (tftp_line (if any then Oack else Block 1)) ≡ false
first_not_full true = refl
first_not_full false = refl

module _ (v : View) (now : ℕ) (xs : Transfers) (from : Peer) (bytes : List ℕ) (given : Given) (says : says_full (tftp_line given.word) ≡ true) where
  not_full : says_full (tftp_line given.word) ≡ false → IsFull xs from given
  not_full other = cc

  full_given : (w : Way) → FullWhere (has_no_room xs) (map.get xs from) w → GivesBy v xs (datagram_at now from bytes) w given → IsFull xs from given
  full_given (Denies denial) where_full p =
      let why = where_full (sym (ap (λ (g : Given). says_full (tftp_line g.word)) p) ∙ says) in
      record { no_room = why.0; without = why.1; items = ap (λ (g : Given). g.items) p ∙ ap (error_to from) why.2 }
  full_given (Repeats x) where_full p = not_full (ap (λ (g : Given). says_full (tftp_line g.word)) p)
  full_given (Accepts request owner) where_full p = not_full (ap (λ (g : Given). says_full (tftp_line g.word)) p.1.1 ∙ first_not_full (has_option request.options))
  full_given Ignores where_full p = not_full (ap (λ (g : Given). says_full (tftp_line g.word)) p)
  full_given Finishes where_full p = not_full (ap (λ (g : Given). says_full (tftp_line g.word)) p)
  full_given BreaksOff where_full p = not_full (ap (λ (g : Given). says_full (tftp_line g.word)) p)
  full_given (GoesOn x) where_full p = not_full (ap (λ (g : Given). says_full (tftp_line g.word)) p)
  full_given Leaves where_full p = not_full (ap (λ (g : Given). says_full (tftp_line g.word)) p)

is_full_given : (t : Tables) (now : ℕ) (xs : Transfers) (from : Peer) (bytes : List ℕ) (given : Given) → says_full (tftp_line given.word) ≡ true
    → TftpStep t xs (datagram_at now from bytes) given → IsFull xs from given
unfolding TftpStep
is_full_given t now xs from bytes given says step =
    full_given (view t from.ip) now xs from bytes given says (way (view t from.ip) xs (datagram_at now from bytes)) (full_way (view t from.ip) now xs from bytes) step

-- ---- every turn

abbrev Else : Ip4 → State → What → Effect → Type 0
Else ip s what effect = Quiet ip effect.said.items ⊎ IsTurnedAway s.held.transfers ip what effect.said.items

items_of : (one other : Effect) → one ≡ other → one.said.items ≡ other.said.items
items_of one other is = ap (λ (e : Effect). e.said.items) is

quietly : (ip : Ip4) (s : State) (what : What) (effect other : Effect) → effect ≡ other → Quiet ip other.said.items → Else ip s what effect
quietly ip s what effect other is quiet = inl (ap (filter (goes_by_tftp ip)) (items_of effect other is) ∙ quiet)

back_to : (ip : Ip4) (from : Peer) (items : List Sent) → is_at ip from ≡ false → IsAnswerTo from items → Quiet ip items
back_to ip from items away (inl none) = ap (filter (goes_by_tftp ip)) none
back_to ip from items away (inr one) = ap (filter (goes_by_tftp ip)) one.1 ∙ ap (λ b. cond b (packet_to from one.0 ∷ []) []) away

packet_else : (ip : Ip4) (s : State) (from : Peer) (bytes : List ℕ) (effect : Effect) (here full : Bool) → TftpDid s from bytes effect
    → is_at ip from ≡ here → says_full effect.said.line ≡ full → (if here && not full then Some (Came from bytes) else None) ≡ None
    → Else ip s (Datagram Tftp from bytes) effect
packet_else ip s from bytes effect false full did at says none =
    quietly ip s (Datagram Tftp from bytes) effect _ did.does
    (back_to ip from did.given.items at (answers_go_back s.tables s.held.transfers (datagram_at s.held.now from bytes) did.given did.step))
packet_else ip s from bytes effect true true did at says none =
    let line = ap (λ (e : Effect). says_full e.said.line) did.does in
    let why = is_full_given s.tables s.held.now s.held.transfers from bytes did.given (sym line ∙ says) did.step in
    inr (record {
      from = from;
      bytes = bytes;
      came = refl;
      own = at;
      full = leb-true 256 (map.len s.held.transfers) why.no_room;
      without = why.without;
      told = items_of effect _ did.does ∙ why.items;
    })
packet_else ip s from bytes effect true false did at says none = cc

meaning_quiet : (ip : Ip4) (s : State) (conn : ℕ) (bytes : List ℕ) (meaning : Meaning) → Quiet ip (by_meaning s conn bytes meaning).said.items
meaning_quiet ip s conn bytes Waits = refl
meaning_quiet ip s conn bytes (Refused f) = refl
meaning_quiet ip s conn bytes (Asked method target body) = refl

piece_else : (ip : Ip4) (s : State) (conn : ℕ) (piece : List ℕ) (effect : Effect) (full : Bool) → TakesPiece full s conn piece effect → Else ip s (Piece conn piece) effect
piece_else ip s conn piece effect true takes = quietly ip s (Piece conn piece) effect _ takes refl
piece_else ip s conn piece effect false takes =
    quietly ip s (Piece conn piece) effect _ takes.does (meaning_quiet ip s conn (heard_of s.held conn ++ piece) takes.meaning)

message_else : (ip : Ip4) (s : State) (from : Peer) (bytes : List ℕ) (effect : Effect) (step : Option DeviceStep) → device_of s.tables s.held.now bytes ≡ step → MessageDid s bytes effect step
    → Else ip s (Datagram Dhcp from bytes) effect
message_else ip s from bytes effect (Some step) is did =
    let d = device_told s.tables s.held.now bytes step is in
    quietly ip s (Datagram Dhcp from bytes) effect _ (did ∙ ap (device_effect s) d.does)
    (reply_quiet ip (step_behind s.tables s.held.now d.message d.modem).reply (device_goes s.tables s.held.now d.message d.modem))
message_else ip s from bytes effect None is did = quietly ip s (Datagram Dhcp from bytes) effect _ did (dhcp_quiet ip s.tables s.held.now bytes)

datagram_else : (ip : Ip4) (s : State) (from : Peer) (bytes : List ℕ) (effect : Effect) (query : Option (List ℕ)) → DatagramDid s bytes effect query
    → Else ip s (Datagram Dhcp from bytes) effect
datagram_else ip s from bytes effect (Some q) did =
    quietly ip s (Datagram Dhcp from bytes) effect _ did (reply_quiet ip (query_step s.tables s.held.now q).reply (reply_goes s.tables s.held.now q))
datagram_else ip s from bytes effect None did = message_else ip s from bytes effect (device_of s.tables s.held.now bytes) refl did

does_else : (ip : Ip4) (s : State) (what : What) (outcome : Outcome) (effect : Effect) → Does s what outcome effect
    → happening_by ip what outcome effect.said.line ≡ None → Else ip s what effect
does_else ip s (Datagram Dhcp from bytes) Did effect p none = datagram_else ip s from bytes effect (query_of bytes) p
does_else ip s (Datagram Dhcp from bytes) Memory effect p none = quietly ip s (Datagram Dhcp from bytes) effect _ p refl
does_else ip s (Datagram Dhcp from bytes) Keeper effect p none = quietly ip s (Datagram Dhcp from bytes) effect _ p refl
does_else ip s (Datagram Time from bytes) Did effect p none = quietly ip s (Datagram Time from bytes) effect _ p refl
does_else ip s (Datagram Time from bytes) Memory effect p none = quietly ip s (Datagram Time from bytes) effect _ p refl
does_else ip s (Datagram Time from bytes) Keeper effect p none = absurd p
does_else ip s (Datagram Tftp from bytes) Did effect p none = packet_else ip s from bytes effect (is_at ip from) (says_full effect.said.line) p refl refl none
does_else ip s (Datagram Tftp from bytes) Memory effect p none = quietly ip s (Datagram Tftp from bytes) effect _ p refl
does_else ip s (Datagram Tftp from bytes) Keeper effect p none = quietly ip s (Datagram Tftp from bytes) effect _ p refl
does_else ip s (Piece conn piece) Did effect p none = piece_else ip s conn piece effect (is_full s.held.connections conn) p
does_else ip s (Piece conn piece) Memory effect p none = quietly ip s (Piece conn piece) effect _ p refl
does_else ip s (Piece conn piece) Keeper effect p none = quietly ip s (Piece conn piece) effect _ p refl
does_else ip s (Closed conn) Did effect p none = quietly ip s (Closed conn) effect _ p refl
does_else ip s (Closed conn) Memory effect p none = absurd p
does_else ip s (Closed conn) Keeper effect p none = absurd p
does_else ip s Tick Did effect p none = cc
does_else ip s Tick Memory effect p none = quietly ip s Tick effect _ p refl
does_else ip s Tick Keeper effect p none = absurd p
does_else ip s End Did effect p none = quietly ip s End effect _ p refl
does_else ip s End Memory effect p none = absurd p
does_else ip s End Keeper effect p none = absurd p

pub nothing_else_goes : NothingElseGoes
unfolding Step
nothing_else_goes s after turn ip step none =
    does_else ip (at_moment s turn.event.at.0) turn.event.what turn.outcome (effect_of turn after) step none
