-- Worked examples, evaluated: the definitions say what was meant. A modem behind a relay is offered
-- an address, takes it, renews it without the relay, asks for another one, declines its own, and
-- releases it.
use Rattle.std.proofs.Common.{◌≡◌, ℕ, List, [], ◌∷◌, ◌++◌, replicate, pos, Option, Some, None, refl, codes}
use Rattle.md5.specs.Md5.{block_words, rounds, compress, hash_after, digest_bytes, md5}
use Rattle.hex.proofs.OnLiterals.{hex_on_literals}
use Rattle.off_base.specs.Parts.{parts_in}
use Rattle.off_base.specs.declared.addresses.Ip4.{Ip4}
use Rattle.off_base.specs.declared.macs.Mac.{Mac}
use Rattle.off_defs.specs.declared.events.Service.TheVariants as service
use Rattle.off_defs.specs.declared.keys.Key.TheVariants as key
use Rattle.off_defs.specs.declared.tables.Row.TheVariants as row
use Rattle.off_defs.specs.declared.tables.Site.{Site}
use Rattle.off_defs.specs.declared.tables.Pool.{Pool}
use Rattle.off_defs.specs.declared.tables.Modem.{Modem}
use Rattle.off_defs.specs.declared.tables.Hold.{Hold}
use Rattle.off_defs.specs.declared.tables.Hold.TheVariants.{Offered, Bound, Declined}
use Rattle.off_defs.specs.declared.tables.Lease.{Lease}
use Rattle.off_defs.specs.declared.writes.Write.TheVariants.{Put, Drop}
use Rattle.off_defs.specs.declared.results.Sent.{Sent}
use Rattle.off_defs.specs.declared.results.Sent.TheVariants as sent
use Rattle.off_dhcp.specs.Datagram.{Received}
use Rattle.off_dhcp.specs.Reply.{head, relay_options, nak_bytes, reply_bytes}
use Rattle.off_docsis.specs.Cable.{begins_as_modem}
use Rattle.off_mic.specs.Hmac.{hmac}
use Rattle.off_file_rules.specs.Name.{name_of}
use Rattle.off_lease_rules.specs.declared.cases.Case.{Case}
use Rattle.off_lease_rules.specs.declared.results.LeaseStep.{LeaseStep}
use Rattle.off_lease_rules.specs.declared.words.DhcpWord.{DhcpWord}
use Rattle.off_lease_rules.specs.declared.words.DhcpWord.TheVariants as word
use Rattle.off_asking.specs.Asking.{ip}
use Rattle.off_lease_rules.specs.Steps.{lease_step_for}

-- an office at 10.0.0.2 with a pool of 10.64.0.10 to 10.64.0.99 behind the relay 10.64.0.1, and a
-- modem with the serial number SN01
abbrev site : Site
site = record { server = ip 0x0a000002; secret = codes "secret"; offset = pos 3600; lease = 86400; log = ip 0 }

abbrev pool : Pool
pool = record { first = ip 0x0a40000a; last = ip 0x0a400063; prefix = 24; router = ip 0x0a400001; relay = ip 0x0a400001 }

abbrev modem : Modem
modem = record { subscriber = 7; class = 1; serial = codes "SN01" }

abbrev address : List ℕ
address = 2 ∷ 0xaa ∷ 0xbb ∷ 0xcc ∷ 0xdd ∷ 0xee ∷ []

abbrev mac : Mac
mac = record { 0 = address }

abbrev holding : Option Ip4 → Case
holding held = record { site = Some site; pool = Some pool; modem = Some modem; held = held }

-- what the modem and its relay say in each message: options 60, 43 in two pieces with a pad between
-- them, and 82
abbrev relayed_by : List ℕ
relayed_by = 82 ∷ 14 ∷ 1 ∷ 4 ∷ 128 ∷ 0 ∷ 0 ∷ 1 ∷ 2 ∷ 6 ∷ address

abbrev own_options : List ℕ
own_options =
    (60 ∷ 10 ∷ []) ++ codes "docsis3.1:" ++ (43 ∷ 5 ∷ 2 ∷ 3 ∷ []) ++ codes "ECM" ++ (0 ∷ 43 ∷ 6 ∷ 4 ∷ 4 ∷ []) ++ codes "SN01" ++ relayed_by ++ (255 ∷ [])

abbrev said : ℕ → ℕ → ℕ → List ℕ → Received
said kind ciaddr giaddr options =
    record { kind = kind; xid = 0x11223344; flags = 0; ciaddr = ciaddr; giaddr = giaddr; hardware = address ++ replicate 10 0; options = (53 ∷ 1 ∷ kind ∷ []) ++ options }

abbrev by_relay : ℕ → List ℕ → Received
by_relay kind options = said kind 0 0x0a400001 (options ++ own_options)

abbrev asked : ℕ → List ℕ
asked last = 50 ∷ 4 ∷ 10 ∷ 64 ∷ 0 ∷ last ∷ []

abbrev meant : ℕ → List ℕ
meant last = 54 ∷ 4 ∷ 10 ∷ 0 ∷ 0 ∷ last ∷ []

abbrev lease_until : Hold → ℕ → Lease
lease_until hold moment = record { hold = hold; expiry = record { 0 = moment } }

abbrev refusal_by : DhcpWord → LeaseStep
refusal_by word = record { writes = []; reply = None; word = word }

-- an OFFER or an ACK, byte for byte, with the name that another program gives
abbrev options_given : List ℕ
options_given =
    54 ∷ 4 ∷ 10 ∷ 0 ∷ 0 ∷ 2 ∷ 51 ∷ 4 ∷ 0 ∷ 1 ∷ 0x51 ∷ 0x80 ∷ 58 ∷ 4 ∷ 0 ∷ 0 ∷ 0xa8 ∷ 0xc0 ∷ 59 ∷ 4 ∷ 0 ∷ 1 ∷ 0x27 ∷ 0x50
    ∷ 1 ∷ 4 ∷ 255 ∷ 255 ∷ 255 ∷ 0 ∷ 3 ∷ 4 ∷ 10 ∷ 64 ∷ 0 ∷ 1 ∷ 2 ∷ 4 ∷ 0 ∷ 0 ∷ 0x0e ∷ 0x10 ∷ 4 ∷ 4 ∷ 10 ∷ 0 ∷ 0 ∷ 2 ∷ []

abbrev given : ℕ → List ℕ
given kind =
    (2 ∷ 1 ∷ 6 ∷ 0 ∷ 0x11 ∷ 0x22 ∷ 0x33 ∷ 0x44 ∷ 0 ∷ 0 ∷ 0 ∷ 0 ∷ []) ++ (0 ∷ 0 ∷ 0 ∷ 0 ∷ 10 ∷ 64 ∷ 0 ∷ 10 ∷ 10 ∷ 0 ∷ 0 ∷ 2 ∷ 10 ∷ 64 ∷ 0 ∷ 1 ∷ [])
    ++ address ++ replicate 74 0 ++ codes "02aabbccddee-82d91cd0f5ff2dc7.cm" ++ replicate 96 0 ++ (99 ∷ 130 ∷ 83 ∷ 99 ∷ 53 ∷ 1 ∷ kind ∷ [])
    ++ options_given ++ relayed_by ++ (255 ∷ [])

abbrev to_relay : List ℕ → Option Sent
to_relay bytes = Some (sent.Datagram service.Dhcp (record { ip = ip 0x0a400001; port = 67 }) bytes)

offer : lease_step_for 1700000000 (by_relay 1 []) (holding None) (Some (ip 0x0a40000a)) None
    ≡ record {
      writes = Put (key.Lease (ip 0x0a40000a)) (row.Lease (lease_until (Offered mac) 1700000120)) ∷ Put (key.Held mac) (row.Held (ip 0x0a40000a)) ∷ [];
      reply = to_relay (given 2);
      word = word.Offer;
    }
unfolding lease_step_for parts_in begins_as_modem head relay_options reply_bytes name_of hmac block_words rounds compress hash_after digest_bytes md5 hex_on_literals
offer = refl

-- the same again a second later: the same bytes, and the lease ends a second later
again : lease_step_for 1700000001 (by_relay 1 []) (holding (Some (ip 0x0a40000a))) (Some (ip 0x0a40000a)) (Some (lease_until (Offered mac) 1700000120))
    ≡ record {
      writes = Put (key.Lease (ip 0x0a40000a)) (row.Lease (lease_until (Offered mac) 1700000121)) ∷ Put (key.Held mac) (row.Held (ip 0x0a40000a)) ∷ [];
      reply = to_relay (given 2);
      word = word.Offer;
    }
unfolding lease_step_for parts_in begins_as_modem head relay_options reply_bytes name_of hmac block_words rounds compress hash_after digest_bytes md5 hex_on_literals
again = refl

-- who is bound already is offered its address, and nothing is written
bound_already : (lease_step_for 1700000001 (by_relay 1 []) (holding (Some (ip 0x0a40000a))) (Some (ip 0x0a40000a)) (Some (lease_until (Bound mac) 1700000120))).writes ≡ []
unfolding lease_step_for parts_in begins_as_modem
bound_already = refl

ack : lease_step_for 1700000000 (by_relay 3 (meant 2 ++ asked 10)) (holding (Some (ip 0x0a40000a))) (Some (ip 0x0a40000a)) (Some (lease_until (Offered mac) 1700000120))
    ≡ record {
      writes = Put (key.Lease (ip 0x0a40000a)) (row.Lease (lease_until (Bound mac) 1700086400)) ∷ [];
      reply = to_relay (given 5);
      word = word.Ack;
    }
unfolding lease_step_for parts_in begins_as_modem head relay_options reply_bytes name_of hmac block_words rounds compress hash_after digest_bytes md5 hex_on_literals
ack = refl

other_server : lease_step_for 1700000000 (by_relay 3 (meant 9 ++ asked 10)) (holding (Some (ip 0x0a40000a))) (Some (ip 0x0a40000a)) None ≡ refusal_by word.OtherServer
unfolding lease_step_for parts_in begins_as_modem
other_server = refl

pool_full : lease_step_for 1700000119 (by_relay 1 []) (holding None) None None ≡ refusal_by word.PoolFull
unfolding lease_step_for parts_in begins_as_modem
pool_full = refl

-- the owner of a lease that had ended loses it
abbrev another_mac : Mac
another_mac = record { 0 = 2 ∷ 0 ∷ 0 ∷ 0 ∷ 0 ∷ 1 ∷ [] }

passed_on : (lease_step_for 1700000120 (by_relay 1 []) (holding None) (Some (ip 0x0a40000a)) (Some (lease_until (Offered another_mac) 1700000120))).writes
    ≡ Drop (key.Held another_mac)
    ∷ Put (key.Lease (ip 0x0a40000a)) (row.Lease (lease_until (Offered mac) 1700000240))
    ∷ Put (key.Held mac) (row.Held (ip 0x0a40000a))
    ∷ []
unfolding lease_step_for parts_in begins_as_modem
passed_on = refl

init_reboot : lease_step_for 1700000000 (by_relay 3 (asked 10)) (holding None) (Some (ip 0x0a40000a)) None ≡ refusal_by word.NoRecord
unfolding lease_step_for parts_in begins_as_modem
init_reboot = refl

-- without a relay the reply goes to the client's own address, and has no option 82
abbrev spoken : List ℕ
spoken = (60 ∷ 10 ∷ []) ++ codes "docsis3.1:" ++ (43 ∷ 6 ∷ 4 ∷ 4 ∷ []) ++ codes "SN01" ++ (255 ∷ [])

abbrev direct : List ℕ
direct =
    (2 ∷ 1 ∷ 6 ∷ 0 ∷ 0x11 ∷ 0x22 ∷ 0x33 ∷ 0x44 ∷ 0 ∷ 0 ∷ 0 ∷ 0 ∷ []) ++ (10 ∷ 64 ∷ 0 ∷ 10 ∷ 10 ∷ 64 ∷ 0 ∷ 10 ∷ 10 ∷ 0 ∷ 0 ∷ 2 ∷ 0 ∷ 0 ∷ 0 ∷ 0 ∷ [])
    ++ address ++ replicate 74 0 ++ codes "02aabbccddee-82d91cd0f5ff2dc7.cm" ++ replicate 96 0 ++ (99 ∷ 130 ∷ 83 ∷ 99 ∷ 53 ∷ 1 ∷ 5 ∷ [])
    ++ options_given ++ (255 ∷ []) ++ replicate 8 0

renewal : lease_step_for 1700043200 (said 3 0x0a40000a 0 spoken) (holding (Some (ip 0x0a40000a))) (Some (ip 0x0a40000a)) (Some (lease_until (Bound mac) 1700086400))
    ≡ record {
      writes = Put (key.Lease (ip 0x0a40000a)) (row.Lease (lease_until (Bound mac) 1700129600)) ∷ [];
      reply = Some (sent.Datagram service.Dhcp (record { ip = ip 0x0a40000a; port = 68 }) direct);
      word = word.Ack;
    }
unfolding lease_step_for parts_in begins_as_modem head relay_options reply_bytes name_of hmac block_words rounds compress hash_after digest_bytes md5 hex_on_literals
renewal = refl

abbrev refused : List ℕ
refused =
    (2 ∷ 1 ∷ 6 ∷ 0 ∷ 0x11 ∷ 0x22 ∷ 0x33 ∷ 0x44 ∷ 0 ∷ 0 ∷ 128 ∷ 0 ∷ []) ++ replicate 12 0 ++ (10 ∷ 64 ∷ 0 ∷ 1 ∷ []) ++ address ++ replicate 202 0
    ++ (99 ∷ 130 ∷ 83 ∷ 99 ∷ 53 ∷ 1 ∷ 6 ∷ 54 ∷ 4 ∷ 10 ∷ 0 ∷ 0 ∷ 2 ∷ []) ++ relayed_by ++ (255 ∷ []) ++ replicate 34 0

nak : lease_step_for 1700000000 (by_relay 3 (meant 2 ++ asked 50)) (holding (Some (ip 0x0a40000a))) (Some (ip 0x0a400032)) None
    ≡ record { writes = []; reply = to_relay refused; word = word.NotYourAddress }
unfolding lease_step_for parts_in begins_as_modem head relay_options nak_bytes
nak = refl

request_form : lease_step_for 1700000000 (said 3 0x0a40000a 0 (asked 10 ++ own_options)) (holding (Some (ip 0x0a40000a))) None None ≡ refusal_by word.RequestForm
unfolding lease_step_for parts_in begins_as_modem
request_form = refl

declined : lease_step_for 1700000000 (by_relay 4 (asked 10)) (holding (Some (ip 0x0a40000a))) (Some (ip 0x0a40000a)) (Some (lease_until (Bound mac) 1700086400))
    ≡ record {
      writes = Put (key.Lease (ip 0x0a40000a)) (row.Lease (lease_until Declined 1700000600)) ∷ Drop (key.Held mac) ∷ [];
      reply = None;
      word = word.Declined;
    }
unfolding lease_step_for parts_in
declined = refl

released : lease_step_for 1700000000 (said 7 0x0a40000a 0 own_options) (holding (Some (ip 0x0a40000a))) (Some (ip 0x0a40000a)) (Some (lease_until (Bound mac) 1700086400))
    ≡ record { writes = Drop (key.Lease (ip 0x0a40000a)) ∷ Drop (key.Held mac) ∷ []; reply = None; word = word.Released }
unfolding lease_step_for parts_in
released = refl

-- a REQUEST without a relay that isn't a renewal has no pool, and the office serves no INFORM
no_relay : lease_step_for 1700000000 (said 3 0 0 (meant 2 ++ asked 10 ++ spoken)) (record { site = Some site; pool = None; modem = Some modem; held = None }) (Some (ip 0x0a40000a)) None
    ≡ refusal_by word.NoRelayPool
unfolding lease_step_for parts_in begins_as_modem
no_relay = refl

inform : lease_step_for 1700000000 (by_relay 8 []) (holding None) None None ≡ refusal_by word.NotServed
unfolding lease_step_for parts_in
inform = refl

-- of several remote identifiers the first counts
mismatch : lease_step_for 1700000000 (said 1 0 0x0a400001 (82 ∷ 16 ∷ 2 ∷ 6 ∷ 2 ∷ 0 ∷ 0 ∷ 0 ∷ 0 ∷ 1 ∷ 2 ∷ 6 ∷ address)) (holding None) None None ≡ refusal_by word.RelayMismatch
unfolding lease_step_for parts_in
mismatch = refl
