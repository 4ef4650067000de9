-- The numbers of a drill: what turns say, counted, and what they are to be for n modems.
use Rattle.std.specs.Prelude.{ℕ, ◌+◌, ◌-◌, ◌*◌, ◌/◌, ◌==◌, Bool, false, List, [], ◌∷◌, ◌++◌, length, sum, map, codes, decimal, slice_index, if◌then◌else◌}
use Rattle.std.specs.List.{filter}
use Rattle.std.specs.Str.{bytes_eq}
use Rattle.off_defs.specs.declared.events.Service.{Service}
use Rattle.off_defs.specs.declared.events.Service.TheVariants.{Tftp}
use Rattle.off_defs.specs.declared.results.Sent.{Sent}
use Rattle.off_defs.specs.declared.results.Sent.TheVariants.{Datagram}
use Rattle.off_defs.specs.State.{Said}
use Rattle.off_book.specs.Run.{Turn}
use Rattle.off_drill_rules.specs.declared.tally.Tally.{Tally}

-- ---- what is counted

-- a packet that begins with 3 is DATA (RFC 1350, section 5), and has four bytes before its block
abbrev pub is_data_of : Service → List ℕ → Bool
is_data_of Tftp bytes = slice_index bytes 1 == 3
is_data_of service bytes = false

abbrev pub is_data : Sent → Bool
is_data (Datagram service to bytes) = is_data_of service bytes
is_data item = false

abbrev pub block_octets : Sent → ℕ
block_octets (Datagram service to bytes) = length bytes - 4
block_octets item = 0

abbrev pub data_in : List Sent → List Sent
data_in items = filter is_data items

abbrev pub octets_in : List Sent → ℕ
octets_in items = sum (map block_octets (data_in items))

-- a line of these words counts as one
abbrev pub one_for : List ℕ → List ℕ → ℕ
one_for words line = if bytes_eq line words then 1 else 0

abbrev pub offer_line : List ℕ
offer_line = codes "dhcp offer"

abbrev pub ack_line : List ℕ
ack_line = codes "dhcp ack"

abbrev pub oack_line : List ℕ
oack_line = codes "tftp oack"

abbrev pub done_line : List ℕ
done_line = codes "tftp done"

abbrev pub tally_of : Said → Tally
tally_of said = record {
  offers = one_for offer_line said.line;
  acks = one_for ack_line said.line;
  files = one_for done_line said.line;
  blocks = length (data_in said.items);
  octets = octets_in said.items;
}

abbrev pub none_yet : Tally
none_yet = record { offers = 0; acks = 0; files = 0; blocks = 0; octets = 0 }

abbrev pub plus : Tally → Tally → Tally
plus a b = record {
  offers = a.offers + b.offers;
  acks = a.acks + b.acks;
  files = a.files + b.files;
  blocks = a.blocks + b.blocks;
  octets = a.octets + b.octets;
}

-- what turns say, whether or not all that is sent goes out
abbrev pub tally_by : List Turn → Tally
tally_by [] = none_yet
tally_by (turn ∷ turns) = plus (tally_of turn.said) (tally_by turns)

-- ---- what it is to be: each tenth modem is suspended, and has a shorter file

abbrev pub suspended : ℕ → ℕ
suspended n = n / 10

abbrev pub drill_tally : ℕ → Tally
drill_tally n = record {
  offers = n;
  acks = n;
  files = n;
  blocks = 3 * (n - suspended n) + 2 * suspended n;
  octets = 88 * (n - suspended n) + 76 * suspended n;
}

-- ---- the line that tells it

abbrev pub summary_words : ℕ → Tally → List ℕ
summary_words n tally =
    codes "drill " ++ decimal n ++ codes " offers " ++ decimal tally.offers
    ++ codes " acks " ++ decimal tally.acks ++ codes " files " ++ decimal tally.files
    ++ codes " blocks " ++ decimal tally.blocks ++ codes " octets " ++ decimal tally.octets

abbrev pub summary : ℕ → Tally → List ℕ
summary n tally = summary_words n tally ++ 10 ∷ []
