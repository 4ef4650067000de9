-- A transfer: how it begins, goes on, and is sent again (RFC 1350 sections 2 and 6; RFC 2347
-- section 3; RFC 2349).
use Rattle.std.specs.Prelude.{ℕ, zero, suc, Bool, true, false, List, length, min, nat_le, nat_lt, unwrap_or, if◌then◌else◌}
use Rattle.std.specs.FinMap as map
use Rattle.off_base.specs.declared.addresses.Peer.{Peer}
use Rattle.off_defs.specs.declared.events.Service.TheVariants as service
use Rattle.off_defs.specs.declared.results.Sent.{Sent}
use Rattle.off_defs.specs.declared.results.Sent.TheVariants as sent
use Rattle.off_defs.specs.State.{Transfer, peer_cmp}
use Rattle.off_file_rules.specs.Block.{block}
use Rattle.off_packets.specs.Packets.{packet_of, has_option, options_by}
use Rattle.off_packets.specs.declared.packets.Options.{Options}
use Rattle.off_packets.specs.Replies.{data_packet, oack_packet}
use Rattle.off_transfer_rules.specs.Requests.{Datagram, ReadRequest, FileOwner}
use Rattle.off_transfer_rules.specs.declared.words.TftpWord.{TftpWord}
use Rattle.off_transfer_rules.specs.declared.words.TftpWord.TheVariants as word

-- the live transfers, by peer
abbrev pub Transfers : Type 0
Transfers = map.FinMap peer_cmp Transfer

-- so many may be live
abbrev pub most_transfers : ℕ
most_transfers = 256

abbrev pub has_no_room : Transfers → Bool
has_no_room transfers = nat_le most_transfers (map.len transfers)

-- Blocks have the size that is asked for (RFC 2348), or 512 bytes (RFC 1350 section 2) where none
-- is, but no more than a datagram carries whole
abbrev pub size_for : Options → ℕ
size_for asked = min (unwrap_or asked.blksize 512) 1428

-- A packet that isn't answered goes again behind the seconds that are asked for (RFC 2349), or
-- behind two where none are
abbrev pub seconds_for : Options → ℕ
seconds_for asked = unwrap_or asked.timeout 2

-- the first packet that is sent: the OACK, which has number 0, where there is an option to be told
abbrev pub first_number : Options → ℕ
first_number asked = if has_option asked then 0 else 1

abbrev pub first_word : Options → TftpWord
first_word asked = if has_option asked then word.Oack else word.Block 1

-- a transfer as its read request makes it
abbrev pub new_transfer : Datagram → ReadRequest → FileOwner → List ℕ → Transfer
new_transfer datagram request owner file = record {
  name = request.name;
  modem = owner.modem;
  subscriber = owner.subscriber;
  file = file;
  size = size_for request.options;
  request = datagram.bytes;
  sent = first_number request.options;
  is_acknowledged = false;
  last_send = datagram.at;
  resends = 0;
}

-- what its read request asked for, and so its seconds: they are read of the request's bytes, which
-- a transfer keeps as they came
abbrev pub options_of : Transfer → Options
options_of x = options_by (packet_of x.request)

abbrev pub seconds_of : Transfer → ℕ
seconds_of x = seconds_for (options_of x)

-- the packet of a number: 0 is the OACK's, and each other one its block's
abbrev pub packet_of_number : Options → List ℕ → ℕ → ℕ → List ℕ
packet_of_number asked file size zero = oack_packet asked size (length file)
packet_of_number asked file size (suc before) =
    data_packet (suc before) (block file size (suc before))

-- the packet that was sent last
abbrev pub last_packet : Transfer → List ℕ
last_packet x = packet_of_number (options_of x) x.file x.size x.sent

-- a block is the last one where it is shorter than the size (RFC 1350 section 6)
abbrev pub is_last_number : List ℕ → ℕ → ℕ → Bool
is_last_number file size zero = false
is_last_number file size (suc before) = nat_lt (length (block file size (suc before))) size

abbrev pub is_at_last : Transfer → Bool
is_at_last x = is_last_number x.file x.size x.sent

-- the next block was sent
abbrev pub gone_on : ℕ → Transfer → Transfer
gone_on now x = record x { sent = suc x.sent; is_acknowledged = true; last_send = now; resends = 0 }

-- its first packet was sent again, since its read request came again
abbrev pub asked_again : ℕ → Transfer → Transfer
asked_again now x = record x { last_send = now }

-- its last packet was sent again, since nothing came
abbrev pub sent_again : ℕ → Transfer → Transfer
sent_again now x = record x { last_send = now; resends = suc x.resends }

-- all goes to the peer, from the port of requests
abbrev pub packet_to : Peer → List ℕ → Sent
packet_to peer bytes = sent.Datagram service.Tftp peer bytes
