-- Worked examples, evaluated: the definitions say what was meant. A modem asks for its file in
-- blocks of 44 bytes, by a request of 52 bytes.
use Rattle.std.proofs.Common.{◌≡◌, ℕ, List, [], ◌∷◌, ◌++◌, true, false, Some, None, Ok, Err, refl, codes}
use Rattle.std.specs.Fmt.{digits}
use Rattle.off_base.specs.Number.{number_read}
use Rattle.off_packets.specs.Packets.{Reads, Writes, Acknowledges, GivesUp, IsOther, packet_of, no_options, only_size, options_asked}
use Rattle.off_packets.specs.Replies.{oack_packet, error_packet}
use Rattle.off_packets.specs.declared.packets.Options.{Options}
use Rattle.off_packets.specs.declared.faults.PacketFault.TheVariants as fault

abbrev pub file_name : List ℕ
file_name = codes "02aabbccddee-82d91cd0f5ff2dc7.cm"

abbrev pub plain : List ℕ
plain = 0 ∷ 1 ∷ (file_name ++ 0 ∷ (codes "octet" ++ 0 ∷ []))

abbrev pub asking : List ℕ → List ℕ
asking size = plain ++ codes "blksize" ++ 0 ∷ (size ++ 0 ∷ [])

request : packet_of (asking (codes "44")) ≡ Ok (Reads file_name (only_size 44))
unfolding packet_of number_read
request = refl

-- cut within its option it has none, and cut within its mode it is no request
without_option : packet_of plain ≡ Ok (Reads file_name no_options)
unfolding packet_of number_read
without_option = refl

cut_value : packet_of (plain ++ codes "blksize" ++ 0 ∷ codes "44") ≡ Ok (Reads file_name no_options)
unfolding packet_of number_read
cut_value = refl

cut_mode : packet_of (0 ∷ 1 ∷ (file_name ++ 0 ∷ codes "octet")) ≡ Err fault.Form
unfolding packet_of
cut_mode = refl

other_mode : packet_of (0 ∷ 1 ∷ (file_name ++ 0 ∷ (codes "netascii" ++ 0 ∷ []))) ≡ Err fault.Mode
unfolding packet_of
other_mode = refl

-- sizes below 8 are as if none were asked for, and also hide a later option of the same name; large
-- ones are read
too_small : packet_of (asking (codes "7") ++ codes "BLKSIZE" ++ 0 ∷ (codes "44" ++ 0 ∷ [])) ≡ Ok (Reads file_name no_options)
unfolding packet_of number_read
too_small = refl

largest : packet_of (asking (codes "65464")) ≡ Ok (Reads file_name (only_size 65464))
unfolding packet_of number_read
largest = refl

acknowledged : packet_of (0 ∷ 4 ∷ 1 ∷ 2 ∷ []) ≡ Ok (Acknowledges 258)
unfolding packet_of
acknowledged = refl

half_acknowledged : packet_of (0 ∷ 4 ∷ 1 ∷ []) ≡ Err fault.Form
unfolding packet_of
half_acknowledged = refl

written : packet_of (0 ∷ 2 ∷ []) ≡ Ok Writes
unfolding packet_of
written = refl

given_up : packet_of (0 ∷ 5 ∷ []) ≡ Ok GivesUp
unfolding packet_of
given_up = refl

other : packet_of (1 ∷ 1 ∷ []) ≡ Ok IsOther
unfolding packet_of
other = refl

one_byte : packet_of (0 ∷ []) ≡ Err fault.Form
unfolding packet_of
one_byte = refl

-- ---- the file's length and the time between resends, in any order, in any case

abbrev all_three : Options
all_three = record { blksize = Some 44; tsize = true; timeout = Some 5 }

asks_all : packet_of (asking (codes "44") ++ codes "tsize" ++ 0 ∷ (codes "0" ++ 0 ∷ (codes "timeout" ++ 0 ∷ (codes "5" ++ 0 ∷ [])))) ≡ Ok (Reads file_name all_three)
unfolding packet_of number_read
asks_all = refl

in_any_order : options_asked (codes "TimeOut" ∷ codes "005" ∷ codes "rollover" ∷ codes "0" ∷ codes "TSIZE" ∷ codes "0" ∷ codes "BlkSize" ∷ codes "44" ∷ []) ≡ all_three
unfolding number_read
in_any_order = refl

-- a value that can't be read hides a later one of the same name
bad_first : options_asked (codes "timeout" ∷ codes "0" ∷ codes "Timeout" ∷ codes "5" ∷ codes "tsize" ∷ codes "-1" ∷ codes "tsize" ∷ codes "0" ∷ []) ≡ no_options
unfolding number_read
bad_first = refl

-- no more than 255 seconds, in no more than three digits
most_seconds : options_asked (codes "timeout" ∷ codes "255" ∷ []) ≡ record no_options { timeout = Some 255 }
unfolding number_read
most_seconds = refl

too_long : options_asked (codes "timeout" ∷ codes "256" ∷ []) ≡ no_options
unfolding number_read
too_long = refl

four_digits : options_asked (codes "timeout" ∷ codes "0005" ∷ []) ≡ no_options
unfolding number_read
four_digits = refl

-- a length of 20 digits, over what 64 bits hold, and one of 21
twenty_digits : options_asked (codes "tsize" ∷ codes "99999999999999999999" ∷ []) ≡ record no_options { tsize = true }
twenty_digits = refl

more_digits : options_asked (codes "tsize" ∷ codes "000000000000000000000" ∷ []) ≡ no_options
more_digits = refl

oack : oack_packet (only_size 44) 44 88 ≡ 0 ∷ 6 ∷ 98 ∷ 108 ∷ 107 ∷ 115 ∷ 105 ∷ 122 ∷ 101 ∷ 0 ∷ 52 ∷ 52 ∷ 0 ∷ []
unfolding digits
oack = refl

oack_of_all : oack_packet all_three 44 88
    ≡ 0 ∷ 6 ∷ 98 ∷ 108 ∷ 107 ∷ 115 ∷ 105 ∷ 122 ∷ 101 ∷ 0 ∷ 52 ∷ 52 ∷ 0
    ∷ 116 ∷ 115 ∷ 105 ∷ 122 ∷ 101 ∷ 0 ∷ 56 ∷ 56 ∷ 0 ∷ 116 ∷ 105 ∷ 109 ∷ 101 ∷ 111 ∷ 117 ∷ 116 ∷ 0 ∷ 53 ∷ 0 ∷ []
unfolding digits
oack_of_all = refl

oack_of_length : oack_packet (record no_options { tsize = true }) 512 88 ≡ 0 ∷ 6 ∷ 116 ∷ 115 ∷ 105 ∷ 122 ∷ 101 ∷ 0 ∷ 56 ∷ 56 ∷ 0 ∷ []
unfolding digits
oack_of_length = refl

error : error_packet 2 (codes "no longer agreed") ≡ 0 ∷ 5 ∷ 0 ∷ 2 ∷ (codes "no longer agreed" ++ 0 ∷ [])
error = refl
