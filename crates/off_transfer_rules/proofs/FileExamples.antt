-- A worked example of a whole file and its blocks, evaluated: that of modem 02aabbccddee at
-- 10.64.0.10 in November 2023, whose class has a flow of each direction with a greatest rate. The
-- bytes are another program's.
use Rattle.std.proofs.Common.{◌≡◌, ℕ, List, [], ◌∷◌, ◌++◌, true, refl, codes}
use Rattle.md5.specs.Md5.{block_words, rounds, compress, hash_after, digest_bytes, md5}
use Rattle.off_base.specs.Tree.{Tree, leaf, group, no_more, followed, spelling}
use Rattle.off_mic.specs.Hmac.{hmac}
use Rattle.off_mic.specs.Mic.{digest_text, with_both}
use Rattle.off_file_rules.specs.Profile.{profile_of}
use Rattle.off_file_rules.specs.File.{with_stamps}
use Rattle.off_defs.specs.State.{Transfer}
use Rattle.off_packets.specs.Packets.{only_size}
use Rattle.off_transfer_rules.specs.Requests.{datagram_at, request_for, file_owner}
use Rattle.off_transfer_rules.specs.Transfers.{new_transfer, gone_on, last_packet, is_at_last}

abbrev flow : ℕ → ℕ → List ℕ → Tree
flow code reference rate = group code (followed (leaf 1 (0 ∷ reference ∷ [])) (followed (leaf 6 (7 ∷ [])) (followed (leaf 8 rate) no_more)))

abbrev profile : List Tree
profile = profile_of true 2 (flow 24 1 (0 ∷ 152 ∷ 150 ∷ 128 ∷ []) ∷ flow 25 2 (5 ∷ 245 ∷ 225 ∷ 0 ∷ []) ∷ []) []

abbrev first : List ℕ
first = 3 ∷ 1 ∷ 1 ∷ 24 ∷ 13 ∷ 1 ∷ 2 ∷ 0 ∷ 1 ∷ 6 ∷ 1 ∷ 7 ∷ 8 ∷ 4 ∷ 0 ∷ 152 ∷ 150 ∷ 128 ∷ 25 ∷ 13 ∷ 1 ∷ 2 ∷ 0 ∷ 2 ∷ 6 ∷ 1 ∷ 7 ∷ 8 ∷ 4 ∷ 5 ∷ 245 ∷ 225 ∷ 0 ∷ 18 ∷ 1 ∷ 2 ∷ 19 ∷ 4 ∷ 232 ∷ 254 ∷ 111 ∷ 128 ∷ 20 ∷ 4 ∷ []

abbrev second : List ℕ
second = 10 ∷ 64 ∷ 0 ∷ 10 ∷ 6 ∷ 16 ∷ 99 ∷ 109 ∷ 25 ∷ 131 ∷ 227 ∷ 68 ∷ 64 ∷ 96 ∷ 214 ∷ 153 ∷ 68 ∷ 72 ∷ 150 ∷ 228 ∷ 61 ∷ 200 ∷ 7 ∷ 16 ∷ 154 ∷ 253 ∷ 36 ∷ 96 ∷ 47 ∷ 132 ∷ 98 ∷ 163 ∷ 205 ∷ 14 ∷ 253 ∷ 254 ∷ 213 ∷ 96 ∷ 226 ∷ 183 ∷ 255 ∷ 0 ∷ 0 ∷ 0 ∷ []

-- all of it but the marker and three zeros
file : spelling (with_both (codes "secret") (with_stamps profile 1700000000 (record { 0 = 0x0a40000a }))) ++ (255 ∷ 0 ∷ 0 ∷ 0 ∷ []) ≡ first ++ second
unfolding block_words rounds compress hash_after digest_bytes md5 hmac digest_text
file = refl

-- in blocks of 44 bytes: two whole ones, and an empty one
abbrev begins : Transfer
begins = new_transfer (datagram_at 1700000000 (record { ip = record { 0 = 0x0a40000a }; port = 49152 }) []) (request_for [] (only_size 44)) (file_owner (record { 0 = 2 ∷ 0xaa ∷ 0xbb ∷ 0xcc ∷ 0xdd ∷ 0xee ∷ [] }) 7) (first ++ second)

abbrev later : Transfer → Transfer
later x = gone_on 1700000000 x

first_block : last_packet (later begins) ≡ 0 ∷ 3 ∷ 0 ∷ 1 ∷ first
first_block = refl

second_block : last_packet (later (later begins)) ≡ 0 ∷ 3 ∷ 0 ∷ 2 ∷ second
second_block = refl

third_block : last_packet (later (later (later begins))) ≡ 0 ∷ 3 ∷ 0 ∷ 3 ∷ []
third_block = refl

last_one : is_at_last (later (later (later begins))) ≡ true
last_one = refl
