-- Worked examples, evaluated: the definitions say what was meant. A modem asks for its file in
-- blocks of 44 bytes, and acknowledges each; meanwhile its row changes, or nothing comes for a while.
use Rattle.std.proofs.Common.{◌≡◌, ℕ, ◌+◌, List, [], ◌∷◌, ◌++◌, true, false, pos, Option, Some, None, Ok, refl, codes, option_and_then}
use Rattle.std.specs.Fmt.{digits}
use Rattle.md5.specs.Md5.{block_words, rounds, compress, hash_after, digest_bytes, md5}
use Rattle.hex.proofs.OnLiterals.{hex_on_literals}
use Rattle.off_base.specs.declared.addresses.Ip4.{Ip4}
use Rattle.off_base.specs.declared.addresses.Peer.{Peer}
use Rattle.off_base.specs.declared.macs.Mac.{Mac}
use Rattle.off_defs.specs.declared.tables.Site.{Site}
use Rattle.off_defs.specs.declared.tables.Modem.{Modem}
use Rattle.off_defs.specs.declared.tables.Lease.{Lease}
use Rattle.off_defs.specs.declared.tables.Hold.TheVariants.{Bound}
use Rattle.off_defs.specs.State.{Transfer}
use Rattle.off_mic.specs.Hmac.{hmac}
use Rattle.off_file_rules.specs.Name.{name_of}
use Rattle.off_base.specs.Number.{number_read}
use Rattle.off_packets.specs.Packets.{Reads, Acknowledges, packet_of, no_options, only_size}
use Rattle.off_transfer_rules.specs.Requests.{datagram_at, request_for, file_owner}
use Rattle.off_transfer_rules.specs.View.{View}
use Rattle.off_transfer_rules.specs.Transfers.{size_for, new_transfer, last_packet, gone_on, sent_again}
use Rattle.off_transfer_rules.specs.Steps.{Denies, Repeats, Accepts, Ignores, Finishes, BreaksOff, GoesOn, no_lease, file_not_found, too_many_transfers, unknown_transfer, way_of}
use Rattle.off_transfer_rules.specs.Ticks.{tick_of, is_resent}
use Rattle.off_transfer_rules.specs.Words.{tftp_line, tick_line}
use Rattle.off_transfer_rules.specs.declared.words.TftpWord.TheVariants as word
use Rattle.off_packets.proofs.Examples.{file_name, plain, asking}

-- ---- a request, and how large its blocks are

largest_served : size_for (only_size 65464) ≡ 1428
largest_served = refl

-- ---- ways: modem 02aabbccddee of subscriber 7 is bound to 10.64.0.10 for a day

abbrev address : Ip4
address = record { 0 = 0x0a40000a }

abbrev from : Peer
from = record { ip = address; port = 49152 }

abbrev mac : Mac
mac = record { 0 = 2 ∷ 0xaa ∷ 0xbb ∷ 0xcc ∷ 0xdd ∷ 0xee ∷ [] }

abbrev site : Site
site = record { server = record { 0 = 0x0a000002 }; secret = codes "secret"; offset = pos 3600; lease = 86400; log = record { 0 = 0 } }

abbrev modem_of : ℕ → Modem
modem_of subscriber = record { subscriber = subscriber; class = 1; serial = codes "SN01" }

abbrev lease : Lease
lease = record { hold = Bound mac; expiry = record { 0 = 1700086400 } }

abbrev seen : Modem → View
seen modem = record { site = Some site; lease = Some lease; modem = Some modem; profile = Some [] }

abbrev at_start : Transfer
at_start = new_transfer (datagram_at 1700000000 from (asking (codes "44"))) (request_for file_name (only_size 44)) (file_owner mac 7) (1 ∷ 2 ∷ 3 ∷ [])

accepted : way_of (seen (modem_of 7)) (datagram_at 1700000000 from (asking (codes "44"))) false None (Ok (Reads file_name (only_size 44))) ≡ Accepts (request_for file_name (only_size 44)) (file_owner mac 7)
unfolding block_words rounds compress hash_after digest_bytes md5 hmac name_of hex_on_literals
accepted = refl

wrong_name : way_of (seen (modem_of 7)) (datagram_at 1700000000 from plain) false None (Ok (Reads (codes "modem.cm") no_options)) ≡ Denies file_not_found
unfolding block_words rounds compress hash_after digest_bytes md5 hmac name_of hex_on_literals
wrong_name = refl

ended_lease : way_of (seen (modem_of 7)) (datagram_at 1700086400 from plain) false None (Ok (Reads file_name no_options)) ≡ Denies no_lease
ended_lease = refl

-- with 256 transfers another peer's request is refused, and one of a peer that has a transfer isn't
no_room : way_of (seen (modem_of 7)) (datagram_at 1700000000 from plain) true None (Ok (Reads file_name no_options)) ≡ Denies too_many_transfers
unfolding block_words rounds compress hash_after digest_bytes md5 hmac name_of hex_on_literals
no_room = refl

replaced : way_of (seen (modem_of 7)) (datagram_at 1700000000 from plain) true (Some at_start) (Ok (Reads file_name no_options)) ≡ Accepts (request_for file_name no_options) (file_owner mac 7)
unfolding block_words rounds compress hash_after digest_bytes md5 hmac name_of hex_on_literals
replaced = refl

-- the same request again before the first acknowledgement, also when the lease has ended; and after it
again : way_of (seen (modem_of 7)) (datagram_at 1700086400 from (asking (codes "44"))) false (Some at_start) (Ok (Reads file_name (only_size 44))) ≡ Repeats at_start
again = refl

anew : way_of (seen (modem_of 7)) (datagram_at 1700000000 from (asking (codes "44"))) false (Some (gone_on 1700000000 at_start)) (Ok (Reads file_name (only_size 44))) ≡ Accepts (request_for file_name (only_size 44)) (file_owner mac 7)
unfolding block_words rounds compress hash_after digest_bytes md5 hmac name_of hex_on_literals
anew = refl

first_acknowledged : way_of (seen (modem_of 7)) (datagram_at 1700000000 from (0 ∷ 4 ∷ 0 ∷ 0 ∷ [])) false (Some at_start) (Ok (Acknowledges 0)) ≡ GoesOn at_start
unfolding block_words rounds compress hash_after digest_bytes md5 hmac name_of hex_on_literals
first_acknowledged = refl

-- once block 1 is sent, the OACK's acknowledgement is stale, and that of block 1 ends a file of three bytes
stale : way_of (seen (modem_of 7)) (datagram_at 1700000000 from (0 ∷ 4 ∷ 0 ∷ 0 ∷ [])) false (Some (gone_on 1700000000 at_start)) (Ok (Acknowledges 0)) ≡ Ignores
stale = refl

finished : way_of (seen (modem_of 7)) (datagram_at 1700000000 from (0 ∷ 4 ∷ 0 ∷ 1 ∷ [])) false (Some (gone_on 1700000000 at_start)) (Ok (Acknowledges 1)) ≡ Finishes
finished = refl

-- the modem was put under another subscriber meanwhile
disagreed : way_of (seen (modem_of 8)) (datagram_at 1700000000 from (0 ∷ 4 ∷ 0 ∷ 0 ∷ [])) false (Some at_start) (Ok (Acknowledges 0)) ≡ BreaksOff
unfolding block_words rounds compress hash_after digest_bytes md5 hmac name_of hex_on_literals
disagreed = refl

unknown : way_of (seen (modem_of 7)) (datagram_at 1700000000 from (0 ∷ 4 ∷ 0 ∷ 0 ∷ [])) false None (Ok (Acknowledges 0)) ≡ Denies unknown_transfer
unknown = refl

-- ---- Ticks: at 1, 2, 4, 6, 8, 10 and 12 seconds behind the last send

abbrev behind : ℕ → ℕ
behind seconds = 1700000000 + seconds

abbrev after_ticks : List ℕ → Option Transfer
after_ticks [] = Some at_start
after_ticks (seconds ∷ earlier) = option_and_then (tick_of (behind seconds)) (after_ticks earlier)

too_early : after_ticks (1 ∷ []) ≡ Some at_start
unfolding packet_of number_read
too_early = refl

resent : after_ticks (2 ∷ 1 ∷ []) ≡ Some (sent_again (behind 2) at_start)
unfolding packet_of number_read
resent = refl

five_times : after_ticks (10 ∷ 8 ∷ 6 ∷ 4 ∷ 2 ∷ 1 ∷ []) ≡ Some (record at_start { last_send = behind 10; resends = 5 })
unfolding packet_of number_read
five_times = refl

closed : after_ticks (12 ∷ 10 ∷ 8 ∷ 6 ∷ 4 ∷ 2 ∷ 1 ∷ []) ≡ None
unfolding packet_of number_read
closed = refl

-- at the last moment there is no later one, and all is due
at_the_end : is_resent 0xffffffffffffffff (record at_start { last_send = 0xffffffffffffffff }) ≡ true
unfolding packet_of number_read
at_the_end = refl

-- ---- another time between resends: five seconds are asked for, with the file's length, and no size

abbrev with_times : List ℕ
with_times = plain ++ codes "tsize" ++ 0 ∷ (codes "0" ++ 0 ∷ (codes "timeout" ++ 0 ∷ (codes "5" ++ 0 ∷ [])))

abbrev with_seconds : Transfer
with_seconds = new_transfer (datagram_at 1700000000 from with_times) (request_for file_name (record no_options { tsize = true; timeout = Some 5 })) (file_owner mac 7) (1 ∷ 2 ∷ 3 ∷ [])

-- the OACK, which is the same when it's sent again
opened : last_packet with_seconds ≡ 0 ∷ 6 ∷ (codes "tsize" ++ 0 ∷ 51 ∷ 0 ∷ (codes "timeout" ++ 0 ∷ 53 ∷ 0 ∷ []))
unfolding packet_of number_read digits
opened = refl

opened_again : last_packet (sent_again (behind 5) with_seconds) ≡ last_packet with_seconds
opened_again = refl

usual_size : with_seconds.size ≡ 512
usual_size = refl

not_yet : tick_of (behind 4) with_seconds ≡ Some with_seconds
unfolding packet_of number_read
not_yet = refl

in_five : tick_of (behind 5) with_seconds ≡ Some (sent_again (behind 5) with_seconds)
unfolding packet_of number_read
in_five = refl

-- ---- lines

line : tftp_line (word.Block 12) ≡ codes "tftp block 12"
unfolding digits
line = refl

tick : tick_line (record { again = 1; closed = 0 }) ≡ codes "tick again 1 closed 0"
unfolding digits
tick = refl

silent : tick_line (record { again = 0; closed = 0 }) ≡ []
silent = refl
