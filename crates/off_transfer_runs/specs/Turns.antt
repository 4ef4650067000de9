-- What a turn of a run means for the transfer of one peer: that is seen by the turn's event, the
-- word of its line and what is sent.
use Rattle.std.specs.Prelude.{ℕ, Bool, ◌||◌, nat_eq, List, [], ◌∷◌, take, drop, codes, find, filter_map, Option, Some, None, Result, Ok, Err, if◌then◌else◌}
use Rattle.std.specs.List.{starts_with}
use Rattle.std.specs.Str.{bytes_eq}
use Rattle.std.specs.Ordering.{eq_by_cmp}
use Rattle.off_base.specs.declared.addresses.Peer.{Peer}
use Rattle.off_defs.specs.declared.events.Service.TheVariants as service
use Rattle.off_defs.specs.declared.events.What.{What}
use Rattle.off_defs.specs.declared.events.What.TheVariants as came
use Rattle.off_defs.specs.declared.results.Sent.{Sent}
use Rattle.off_defs.specs.declared.results.Sent.TheVariants as sent
use Rattle.off_defs.specs.State.{peer_cmp}
use Rattle.off_packets.specs.Packets.{Meant, Reads, Writes, Acknowledges, GivesUp, IsOther, packet_of}
use Rattle.off_transfer_rules.specs.Words.{tftp_line}
use Rattle.off_packets.specs.declared.faults.PacketFault.{PacketFault}
use Rattle.off_transfer_rules.specs.declared.words.TftpWord.{TftpWord}
use Rattle.off_transfer_rules.specs.declared.words.TftpWord.TheVariants as word
use Rattle.off_book.specs.Run.{Turn}

-- the same address and port
abbrev pub is_peer : Peer → Peer → Bool
is_peer one other = eq_by_cmp peer_cmp one other

-- ---- the word of a line

abbrev pub has_word : TftpWord → List ℕ → Bool
has_word word line = bytes_eq line (tftp_line word)

-- a block was sent for the first time, whatever its number
abbrev pub says_block : List ℕ → Bool
says_block line = starts_with nat_eq line (codes "tftp block ")

-- a read request was accepted: its first packet, an OACK or a block, was sent
abbrev pub says_accepted : List ℕ → Bool
says_accepted line = has_word word.Oack line || says_block line

-- ---- what becomes of a peer's transfer

-- The packet that was sent last stands out still, unacknowledged; the packet of this number was
-- acknowledged, and the next block was sent; it was, and all is done; or the transfer is no more.
-- That a Tick closes a transfer is no fate of its own: behind it no acknowledgement is taken and no
-- block goes until a read request is accepted, so it makes no difference to what is said here.
pub data Fate : Type 0 where
  Remains : Fate
  Moves : ℕ → Fate
  Ends : ℕ → Fate
  Breaks : Fate

abbrev pub fate_of_acknowledgement : ℕ → List ℕ → Fate
fate_of_acknowledgement number line =
    if says_block line then Moves number
    else if has_word word.Done line then Ends number
    else if has_word word.Agreement line then Breaks
    else Remains

abbrev pub fate_of : Result Meant PacketFault → List ℕ → Fate
fate_of (Err fault) line = Remains
fate_of (Ok (Reads name asked)) line = if says_accepted line then Breaks else Remains
fate_of (Ok Writes) line = Remains
fate_of (Ok (Acknowledges number)) line = fate_of_acknowledgement number line
fate_of (Ok GivesUp) line = if has_word word.PeerError line then Breaks else Remains
fate_of (Ok IsOther) line = Remains

abbrev pub fate_by : Peer → What → List ℕ → Fate
fate_by peer (came.Datagram service.Tftp from bytes) line =
    if is_peer peer from then fate_of (packet_of bytes) line else Remains
fate_by peer (came.Datagram service.Dhcp from bytes) line = Remains
fate_by peer (came.Datagram service.Time from bytes) line = Remains
fate_by peer (came.Piece conn bytes) line = Remains
fate_by peer (came.Closed conn) line = Remains
fate_by peer came.Tick line = Remains
fate_by peer came.End line = Remains

abbrev pub fate : Peer → Turn → Fate
fate peer turn = fate_by peer turn.event.what turn.said.line

-- ---- what is sent to a peer from the port of requests, whether or not the send failed

abbrev pub packet_for : Peer → Sent → Option (List ℕ)
packet_for peer (sent.Datagram service.Tftp to bytes) = if is_peer peer to then Some bytes else None
packet_for peer (sent.Datagram service.Dhcp to bytes) = None
packet_for peer (sent.Datagram service.Time to bytes) = None
packet_for peer (sent.Answer conn bytes) = None
packet_for peer (sent.Close conn) = None

abbrev pub packets_to : Peer → List Sent → List (List ℕ)
packets_to peer items = filter_map (packet_for peer) items

-- DATA (RFC 1350 section 5): 0, 3, the block's number in two bytes, and the block
abbrev pub is_data : List ℕ → Bool
is_data packet = bytes_eq (take 2 packet) (0 ∷ 3 ∷ [])

abbrev pub block_in : Option (List ℕ) → List ℕ
block_in None = []
block_in (Some packet) = drop 4 packet

-- the block in the first DATA of a turn to a peer, and nothing where there is none
abbrev pub block_given : Peer → Turn → List ℕ
block_given peer turn = block_in (find is_data (packets_to peer turn.said.items))
