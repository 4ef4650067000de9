-- How a query is answered (RFC 4388 section 6.4), byte for byte. The words, their order and the
-- layout of what isn't active are this project's profile.
use Rattle.std.specs.Prelude.{ℕ, ◌-◌, Bool, true, ◌&&◌, min, List, [], ◌∷◌, ◌++◌, slice_index, Option, Some, None, is_some, is_none, option_map, option_and_then, if◌then◌else◌}
use Rattle.std.specs.List.{slice_range}
use Rattle.std.specs.Str.{bytes_eq}
use Rattle.off_base.specs.declared.addresses.Ip4.{Ip4}
use Rattle.off_base.specs.declared.macs.Mac.{Mac}
use Rattle.off_defs.specs.declared.events.Service.TheVariants as service
use Rattle.off_defs.specs.declared.tables.Site.{Site}
use Rattle.off_defs.specs.declared.tables.Hold.{Hold}
use Rattle.off_defs.specs.declared.tables.Hold.TheVariants.{Bound}
use Rattle.off_defs.specs.declared.tables.Lease.{Lease}
use Rattle.off_defs.specs.declared.results.Sent.{Sent}
use Rattle.off_defs.specs.declared.results.Sent.TheVariants as sent
use Rattle.off_defs.specs.State.{Tables}
use Rattle.off_dhcp.specs.Datagram.{magic_cookie}
use Rattle.off_dhcp.specs.Reply.{zeros, four, option, padded}
use Rattle.off_account_rules.specs.Rows.{passes, hub_in, lease_in, held_in}
use Rattle.off_asking.specs.Choice.{provided}
use Rattle.off_asking.specs.Sending.{peer_at}
use Rattle.off_account_rules.specs.Good.{is_live_bound}
use Rattle.off_query_rules.specs.Asked.{giaddr_of, question_of, is_formless, asks_by_address}
use Rattle.off_query_rules.specs.Hubs.{wanted_hub, lies_in_hub}
use Rattle.off_query_rules.specs.declared.cases.QueryCase.{QueryCase}
use Rattle.off_query_rules.specs.declared.questions.Question.{Question}
use Rattle.off_query_rules.specs.declared.questions.Question.TheVariants.{ByAddress, ByMac, Formless}
use Rattle.off_query_rules.specs.declared.results.QueryStep.{QueryStep}
use Rattle.off_query_rules.specs.declared.wanted.Wanted.TheVariants.{Relay}
use Rattle.off_query_rules.specs.declared.words.QueryWord.{QueryWord}
use Rattle.off_query_rules.specs.declared.words.QueryWord.TheVariants as word

-- ---- what is read

-- the address that is asked for: that of the query, or the one that the client holds
abbrev pub asked_address : Tables → Question → Option Ip4
asked_address tables (ByAddress address) = Some address
asked_address tables (ByMac mac) = held_in tables mac
asked_address tables Formless = None

abbrev pub case_with : Tables → Option Site → Option Ip4 → QueryCase
case_with tables site address =
    record {
      site = site;
      address = address;
      lease = option_and_then (lease_in tables) address;
    }

abbrev pub case_at : Tables → Question → Option ℕ → QueryCase
case_at tables question None = case_with tables None None
case_at tables question (Some hub) =
    case_with tables (hub_in tables hub)
    (provided (lies_in_hub tables hub) (asked_address tables question))

unfoldable pub query_case : Tables → List ℕ → QueryCase
query_case tables q =
    case_at tables (question_of q) (wanted_hub tables (Relay (giaddr_of q)))

-- ---- the word: the first whose condition holds

abbrev pub bound_mac : Hold → Option Mac
bound_mac (Bound mac) = Some mac
bound_mac hold = None

-- a query by hardware address is for the lease of that client alone
abbrev pub is_for : Question → Hold → Bool
is_for (ByMac mac) hold = passes (λ owner. bytes_eq owner.0 mac.0) (bound_mac hold)
is_for question hold = true

abbrev pub is_active : ℕ → Question → Lease → Bool
is_active now question lease = is_live_bound now lease && is_for question lease.hold

abbrev pub query_words : ℕ → Question → QueryCase → List (QueryWord × Bool)
query_words now question c =
    (word.Relay, is_none c.site)
    ∷ (word.Form, is_formless question)
    ∷ (word.Active, passes (is_active now question) c.lease)
    ∷ (word.Unassigned, asks_by_address question && is_some c.address)
    ∷ []

abbrev pub first_word : List (QueryWord × Bool) → QueryWord
first_word [] = word.Unknown
first_word (rule ∷ rules) = if rule.1 then rule.0 else first_word rules

-- ---- the reply, to the relay's server port

unfoldable pub query_head : List ℕ → ℕ → ℕ → List ℕ → List ℕ → List ℕ
query_head q htype hlen ciaddr hardware =
    (2 ∷ htype ∷ hlen ∷ 0 ∷ []) ++ slice_range q 4 8 ++ (0 ∷ 0 ∷ []) ++ slice_range q 10 12
    ++ ciaddr ++ zeros 8 ++ slice_range q 24 28 ++ hardware ++ zeros 192 ++ magic_cookie

-- what isn't active repeats what the query says of the client
unfoldable pub plain_bytes : ℕ → List ℕ → Ip4 → List ℕ
plain_bytes kind q server =
    padded (query_head q (slice_index q 1) (slice_index q 2) (slice_range q 12 16)
    (slice_range q 28 44)
    ++ option 53 (kind ∷ []) ++ option 54 (four server.0) ++ (255 ∷ []))

-- an active lease has its address, its owner, and the seconds until it ends
unfoldable pub active_bytes : ℕ → List ℕ → Ip4 → Ip4 → Mac → List ℕ
active_bytes left q server address mac =
    padded (query_head q 1 6 (four address.0) (mac.0 ++ zeros 10)
    ++ option 53 (13 ∷ []) ++ option 54 (four server.0) ++ option 51 (four left) ++ (255 ∷ []))

abbrev pub seconds_left : ℕ → Lease → ℕ
seconds_left now lease = min (lease.expiry.0 - now) 4294967295

abbrev pub to_relay : List ℕ → List ℕ → Sent
to_relay q bytes = sent.Datagram service.Dhcp (peer_at (giaddr_of q) 67) bytes

abbrev pub active_for : ℕ → List ℕ → Site → Ip4 → Lease → Option Sent
active_for now q site address lease =
    option_map
    (λ mac. to_relay q (active_bytes (seconds_left now lease) q site.server address mac))
    (bound_mac lease.hold)

abbrev pub reply_by_word : ℕ → List ℕ → QueryCase → Site → QueryWord → Option Sent
reply_by_word now q c site word.Active =
    option_and_then (λ address. option_and_then (active_for now q site address) c.lease) c.address
reply_by_word now q c site word.Unassigned = Some (to_relay q (plain_bytes 11 q site.server))
reply_by_word now q c site word.Unknown = Some (to_relay q (plain_bytes 12 q site.server))
reply_by_word now q c site word = None

abbrev pub query_step_by : ℕ → List ℕ → QueryCase → QueryWord → QueryStep
query_step_by now q c word =
    record {
      reply = option_and_then (λ site. reply_by_word now q c site word) c.site;
      word = word;
    }

-- by the rows, the first word whose condition holds, and its reply
unfoldable pub query_step_for : ℕ → List ℕ → QueryCase → QueryStep
query_step_for now q c = query_step_by now q c (first_word (query_words now (question_of q) c))

-- A query at a moment. It changes no table.
unfoldable pub query_step : Tables → ℕ → List ℕ → QueryStep
query_step tables now q = query_step_for now q (query_case tables q)
