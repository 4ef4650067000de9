-- Worked examples, evaluated: a relay asks by address and by hardware address.
use Rattle.std.proofs.Common.{◌≡◌, ℕ, true, false, List, [], ◌∷◌, ◌++◌, replicate, pos, Option, Some, None, refl, codes}
use Rattle.off_base.specs.Parts.{parts_in}
use Rattle.off_base.specs.declared.addresses.Ip4.{Ip4}
use Rattle.off_base.specs.declared.macs.Mac.{Mac}
use Rattle.off_defs.specs.declared.events.Service.TheVariants as service
use Rattle.off_defs.specs.declared.tables.Site.{Site}
use Rattle.off_defs.specs.declared.tables.Hold.{Hold}
use Rattle.off_defs.specs.declared.tables.Hold.TheVariants.{Offered, Bound}
use Rattle.off_defs.specs.declared.tables.Lease.{Lease}
use Rattle.off_defs.specs.declared.results.Sent.{Sent}
use Rattle.off_defs.specs.declared.results.Sent.TheVariants as sent
use Rattle.off_asking.specs.Asking.{ip}
use Rattle.off_query_rules.specs.declared.cases.QueryCase.{QueryCase}
use Rattle.off_query_rules.specs.declared.words.QueryWord.TheVariants as word
use Rattle.off_query_rules.specs.Asked.{is_query}
use Rattle.off_query_rules.specs.Answers.{query_head, plain_bytes, active_bytes, query_step_for}

abbrev site : Site
site = record { server = ip 0x0a000002; secret = codes "secret"; offset = pos 3600; lease = 86400; log = ip 0 }

abbrev modem : List ℕ
modem = 2 ∷ 0xaa ∷ 0xbb ∷ 0xcc ∷ 0xdd ∷ 0xee ∷ []

abbrev mac : Mac
mac = record { 0 = modem }

abbrev fixed : List ℕ → List ℕ → List ℕ → List ℕ → List ℕ
fixed kind ciaddr giaddr hardware =
    kind ++ (0 ∷ 0x11 ∷ 0x22 ∷ 0x33 ∷ 0x44 ∷ 0 ∷ 0 ∷ 0 ∷ 0 ∷ []) ++ ciaddr ++ replicate 8 0 ++ giaddr ++ hardware ++ replicate 192 0 ++ (99 ∷ 130 ∷ 83 ∷ 99 ∷ [])

abbrev asks_kind : List ℕ
asks_kind = 53 ∷ 1 ∷ 10 ∷ 255 ∷ []

abbrev relay : List ℕ
relay = 10 ∷ 64 ∷ 0 ∷ 1 ∷ []

abbrev by_address : ℕ → List ℕ
by_address last = fixed (1 ∷ 0 ∷ 0 ∷ []) (10 ∷ 64 ∷ 0 ∷ last ∷ []) relay (replicate 16 0) ++ asks_kind

abbrev by_mac : List ℕ → List ℕ
by_mac address = fixed (1 ∷ 1 ∷ 6 ∷ []) (replicate 4 0) relay (address ++ replicate 10 0) ++ asks_kind

abbrev lease : Hold → Lease
lease hold = record { hold = hold; expiry = record { 0 = 1700086400 } }

abbrev knowing : Option Ip4 → Option Lease → QueryCase
knowing address lease = record { site = Some site; address = address; lease = lease }

abbrev to : List ℕ → Option Sent
to bytes = Some (sent.Datagram service.Dhcp (record { ip = ip 0x0a400001; port = 67 }) bytes)

abbrev server : List ℕ
server = 54 ∷ 4 ∷ 10 ∷ 0 ∷ 0 ∷ 2 ∷ []

it_is_a_query : is_query (by_address 10) ≡ true
unfolding is_query parts_in
it_is_a_query = refl

a_discover_is_none : is_query (fixed (1 ∷ 1 ∷ 6 ∷ []) (replicate 4 0) relay (modem ++ replicate 10 0) ++ (53 ∷ 1 ∷ 1 ∷ 255 ∷ [])) ≡ false
unfolding is_query parts_in
a_discover_is_none = refl

-- 86,000 seconds are left
abbrev active : List ℕ
active =
    fixed (2 ∷ 1 ∷ 6 ∷ []) (10 ∷ 64 ∷ 0 ∷ 10 ∷ []) relay (modem ++ replicate 10 0)
    ++ (53 ∷ 1 ∷ 13 ∷ []) ++ server ++ (51 ∷ 4 ∷ 0 ∷ 1 ∷ 0x4f ∷ 0xf0 ∷ 255 ∷ []) ++ replicate 44 0

address_is_active : query_step_for 1700000400 (by_address 10) (knowing (Some (ip 0x0a40000a)) (Some (lease (Bound mac)))) ≡ record { reply = to active; word = word.Active }
unfolding query_step_for parts_in query_head active_bytes
address_is_active = refl

mac_is_active : query_step_for 1700000400 (by_mac modem) (knowing (Some (ip 0x0a40000a)) (Some (lease (Bound mac)))) ≡ record { reply = to active; word = word.Active }
unfolding query_step_for parts_in query_head active_bytes
mac_is_active = refl

abbrev unassigned : List ℕ
unassigned =
    fixed (2 ∷ 0 ∷ 0 ∷ []) (10 ∷ 64 ∷ 0 ∷ 50 ∷ []) relay (replicate 16 0) ++ (53 ∷ 1 ∷ 11 ∷ []) ++ server ++ (255 ∷ []) ++ replicate 50 0

address_is_unassigned : query_step_for 1700000400 (by_address 50) (knowing (Some (ip 0x0a400032)) None) ≡ record { reply = to unassigned; word = word.Unassigned }
unfolding query_step_for parts_in query_head plain_bytes
address_is_unassigned = refl

-- an address that is offered isn't active, and one that is bound isn't when it has ended
offered_is_unassigned : (query_step_for 1700000400 (by_address 10) (knowing (Some (ip 0x0a40000a)) (Some (lease (Offered mac))))).word ≡ word.Unassigned
unfolding query_step_for parts_in
offered_is_unassigned = refl

ended_is_unassigned : (query_step_for 1700086400 (by_address 10) (knowing (Some (ip 0x0a40000a)) (Some (lease (Bound mac))))).word ≡ word.Unassigned
unfolding query_step_for parts_in
ended_is_unassigned = refl

abbrev other : List ℕ
other = 2 ∷ 0xaa ∷ 0xbb ∷ 0xcc ∷ 0xdd ∷ 0xef ∷ []

abbrev unknown : List ℕ
unknown =
    fixed (2 ∷ 1 ∷ 6 ∷ []) (replicate 4 0) relay (other ++ replicate 10 0) ++ (53 ∷ 1 ∷ 12 ∷ []) ++ server ++ (255 ∷ []) ++ replicate 50 0

mac_is_unknown : query_step_for 1700000400 (by_mac other) (knowing None None) ≡ record { reply = to unknown; word = word.Unknown }
unfolding query_step_for parts_in query_head plain_bytes
mac_is_unknown = refl

no_relay : query_step_for 1700000400 (by_address 10) (record { site = None; address = None; lease = None }) ≡ record { reply = None; word = word.Relay }
unfolding query_step_for parts_in
no_relay = refl

by_identifier : query_step_for 1700000400 (fixed (1 ∷ 0 ∷ 0 ∷ []) (10 ∷ 64 ∷ 0 ∷ 10 ∷ []) relay (replicate 16 0) ++ (53 ∷ 1 ∷ 10 ∷ 61 ∷ 2 ∷ 1 ∷ 1 ∷ 255 ∷ [])) (knowing None None)
    ≡ record { reply = None; word = word.Form }
unfolding query_step_for parts_in
by_identifier = refl
