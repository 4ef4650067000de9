-- Worked examples, evaluated: the definitions say what was meant.
use Rattle.std.proofs.Common.{◌≡◌, [], ◌∷◌, ◌++◌, replicate, refl, codes, Ok, length}
use Rattle.std.specs.Fmt.{digits}
use Rattle.md5.specs.Md5.{block_words, rounds, compress, hash_after, digest_bytes, md5}
use Rattle.hex.proofs.OnLiterals.{hex_on_literals}
use Rattle.off_base.specs.Number.{number_read}
use Rattle.off_mic.specs.Hmac.{hmac}
use Rattle.off_file_rules.specs.Name.{name_of}
use Rattle.off_packets.specs.Packets.{Reads, packet_of, only_size}
use Rattle.off_drill_rules.specs.Rows.{mac, is_active}
use Rattle.off_drill_rules.specs.Messages.{discover, request, name, read_request, acknowledgement}
use Rattle.off_drill_rules.specs.Events.{asks_for_offer, asks_for_lease, asks_for_file, acknowledges, modem_events, drill_events}
use Rattle.off_drill_rules.specs.Numbers.{drill_tally, summary}

far_mac : mac 70000 ≡ record { 0 = 2 ∷ 0 ∷ 0 ∷ 1 ∷ 17 ∷ 112 ∷ [] }
far_mac = refl

-- modem 258 behind its relay: the remote identifier alone in option 82, and no option 43
first_message : discover 258
    ≡ (1 ∷ 1 ∷ 6 ∷ 0 ∷ 0 ∷ 0 ∷ 1 ∷ 2 ∷ []) ++ replicate 16 0 ++ (10 ∷ 64 ∷ 0 ∷ 1 ∷ 2 ∷ 0 ∷ 0 ∷ 0 ∷ 1 ∷ 2 ∷ []) ++ replicate 202 0 ++ (0x63 ∷ 0x82 ∷ 0x53 ∷ 0x63 ∷ [])
    ++ (53 ∷ 1 ∷ 1 ∷ 60 ∷ 10 ∷ []) ++ codes "docsis3.1:" ++ (82 ∷ 8 ∷ 2 ∷ 6 ∷ 2 ∷ 0 ∷ 0 ∷ 0 ∷ 1 ∷ 2 ∷ 255 ∷ [])
unfolding discover
first_message = refl

-- it selects 10.64.17.1 of the server 10.0.0.2
selects : request 258
    ≡ (1 ∷ 1 ∷ 6 ∷ 0 ∷ 0 ∷ 0 ∷ 1 ∷ 2 ∷ []) ++ replicate 16 0 ++ (10 ∷ 64 ∷ 0 ∷ 1 ∷ 2 ∷ 0 ∷ 0 ∷ 0 ∷ 1 ∷ 2 ∷ []) ++ replicate 202 0 ++ (0x63 ∷ 0x82 ∷ 0x53 ∷ 0x63 ∷ [])
    ++ (53 ∷ 1 ∷ 3 ∷ 50 ∷ 4 ∷ 10 ∷ 64 ∷ 17 ∷ 1 ∷ 54 ∷ 4 ∷ 10 ∷ 0 ∷ 0 ∷ 2 ∷ 60 ∷ 10 ∷ []) ++ codes "docsis3.1:"
    ++ (82 ∷ 8 ∷ 2 ∷ 6 ∷ 2 ∷ 0 ∷ 0 ∷ 0 ∷ 1 ∷ 2 ∷ 255 ∷ [])
unfolding request
selects = refl

-- the name of modem 1's file, as another program gives it
first_name : name 1 ≡ codes "020000000001-5d5ce7f911498236.cm"
unfolding name_of hmac block_words rounds compress hash_after digest_bytes md5 hex_on_literals
first_name = refl

asks : packet_of (read_request 1) ≡ Ok (Reads (codes "020000000001-5d5ce7f911498236.cm") (only_size 44))
unfolding packet_of number_read read_request name_of hmac block_words rounds compress hash_after digest_bytes md5 hex_on_literals
asks = refl

second_block : acknowledgement 2 ≡ 0 ∷ 4 ∷ 0 ∷ 2 ∷ []
unfolding acknowledgement
second_block = refl

-- modem 10 is suspended, and has one block less to acknowledge
nine_active : is_active 9 ≡ is_active 11
nine_active = refl

tenth : modem_events 10 ≡ asks_for_offer 10 ∷ asks_for_lease 10 ∷ asks_for_file 10 ∷ acknowledges 10 0 ∷ acknowledges 10 1 ∷ acknowledges 10 2 ∷ []
tenth = refl

one_modem : drill_events 1
    ≡ asks_for_offer 1 ∷ asks_for_lease 1 ∷ asks_for_file 1 ∷ acknowledges 1 0 ∷ acknowledges 1 1 ∷ acknowledges 1 2 ∷ acknowledges 1 3 ∷ []
one_modem = refl

ten_modems : length (drill_events 10) ≡ 69
ten_modems = refl

hundred : summary 100 (drill_tally 100) ≡ codes "drill 100 offers 100 acks 100 files 100 blocks 290 octets 8680" ++ 10 ∷ []
unfolding digits
hundred = refl

most : summary 4000 (drill_tally 4000) ≡ codes "drill 4000 offers 4000 acks 4000 files 4000 blocks 11600 octets 347200" ++ 10 ∷ []
unfolding digits
most = refl
