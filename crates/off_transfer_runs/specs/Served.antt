-- Files over whole runs: what a modem has acknowledged joins to a prefix of its own one file,
-- whatever happened in between.
use Rattle.std.specs.Prelude.{◌≡◌, ℕ, zero, suc, ◌^◌, ◌<◌, max, true, false, List, [], ◌∷◌, ◌++◌, Ok}
use Rattle.std.specs.List.{AllByRecursion}
use Rattle.off_base.specs.declared.addresses.Peer.{Peer}
use Rattle.off_base.specs.declared.macs.Mac.{Mac}
use Rattle.off_defs.specs.declared.events.Service.TheVariants as service
use Rattle.off_defs.specs.declared.events.What.TheVariants as came
use Rattle.off_defs.specs.State.{Tables, State}
use Rattle.off_file_rules.specs.Block.{block}
use Rattle.off_file_rules.specs.File.{with_stamps, IsFile}
use Rattle.off_file_laws.specs.Laws.{Boots}
use Rattle.off_packets.specs.Packets.{Reads, packet_of}
use Rattle.off_packets.specs.Replies.{data_packet}
use Rattle.off_packets.specs.declared.packets.Options.{Options}
use Rattle.off_transfer_rules.specs.Requests.{file_owner}
use Rattle.off_transfer_rules.specs.Transfers.{size_for, first_number, first_word, packet_of_number, is_last_number}
use Rattle.off_transfer_rules.specs.Words.{tftp_line}
use Rattle.off_transfer_laws.specs.Agreement.{Agreement}
use Rattle.off_book.specs.Run.{Turn, Run, tables_after, moment_after}
use Rattle.off_transfer_runs.specs.Turns.{Fate, Remains, Moves, Ends, Breaks, fate, packets_to, is_data, says_accepted, block_given}
use Rattle.off_transfer_runs.specs.Got.{acked, CountUp, got, is_done}

-- ---- the blocks of a file as they go to a peer. Packet k is the one that was sent last and isn't
-- acknowledged: packet 0 the OACK, and each other the DATA of its block

-- meanwhile no other block goes: DATA that goes is packet k again, and while the OACK stands out
-- there is none
abbrev pub IsAgain : List ℕ → ℕ → ℕ → List ℕ → Type 0
IsAgain file size zero packet = is_data packet ≡ false
IsAgain file size (suc before) packet =
    is_data packet ≡ true → packet ≡ data_packet (suc before) (block file size (suc before))

-- by its acknowledgement the next block goes, for the first time; its number fits in two bytes
pub record NextGoes (file : List ℕ) (size k number : ℕ) (packets : List (List ℕ)) : Type 0 where
  pub number_is : number ≡ k
  pub more : is_last_number file size k ≡ false
  pub next : packets ≡ data_packet (suc k) (block file size (suc k)) ∷ []
  pub fits : suc k < 2 ^ 16

-- or, where it was the file's last, all is done
pub record LastCame (file : List ℕ) (size k number : ℕ) (packets : List (List ℕ)) : Type 0 where
  pub number_is : number ≡ k
  pub last : is_last_number file size k ≡ true
  pub nothing : packets ≡ []

abbrev pub GoBy : Fate → List ℕ → ℕ → ℕ → List (List ℕ) → (ℕ → Type 0) → Type 0
GoBy Remains file size k packets Later = AllByRecursion (IsAgain file size k) packets × Later k
GoBy (Moves number) file size k packets Later =
    NextGoes file size k number packets × Later (suc k)
GoBy (Ends number) file size k packets Later = LastCame file size k number packets
GoBy Breaks file size k packets Later = Unit {0}

-- turn by turn, up to the first in which the transfer ends
abbrev pub BlocksGo : Peer → List ℕ → ℕ → ℕ → List Turn → Type 0
BlocksGo peer file size k [] = Unit {0}
BlocksGo peer file size k (turn ∷ turns) =
    GoBy (fate peer turn) file size k (packets_to peer turn.said.items)
    (λ n. BlocksGo peer file size n turns)

-- ---- a read request that was accepted

pub record IsAccepted (peer : Peer) (name : List ℕ) (asked : Options) (turn : Turn) : Type 0 where
  pub bytes : List ℕ
  pub event : turn.event.what ≡ came.Datagram service.Tftp peer bytes
  pub read : packet_of bytes ≡ Ok (Reads name asked)
  pub word : says_accepted turn.said.line ≡ true

-- The address is bound to a modem, whose one file at the moment this is. By the grammar it reads as
-- the modem's profile with the moment and the address, and both integrity checks verify under the
-- secret of the moment. What the peer acknowledges counts up from 1, and what it got begins the
-- file, and is the file where all is done.
pub record FileIsServed (tables : Tables) (now : ℕ) (peer : Peer) (name : List ℕ)
    (asked : Options) (turn : Turn) (later : List Turn) : Type 0 where
  pub modem : Mac
  pub subscriber : ℕ
  pub file : List ℕ
  pub agreed : Agreement tables now peer.ip name (file_owner modem subscriber)
  pub own : IsFile tables modem now peer.ip file
  pub only : (other : List ℕ) → IsFile tables modem now peer.ip other → other ≡ file
  pub boots : Boots own.site.secret file (with_stamps own.profile now peer.ip)
  pub answered : turn.said.line ≡ tftp_line (first_word asked)
  pub opens : packets_to peer turn.said.items
      ≡ packet_of_number asked file (size_for asked) (first_number asked) ∷ []
  pub blocks : BlocksGo peer file (size_for asked) (first_number asked) later
  pub counts : CountUp 1 (acked peer later)
  pub rest : List ℕ
  pub prefix : got peer (block_given peer turn) later ++ rest ≡ file
  pub whole : is_done peer later ≡ true → got peer (block_given peer turn) later ≡ file

-- ---- a run as a whole: the tables and the moment are those of the accepting turn

abbrev pub FilesAreServedThrough : State → List Turn → Type 0
FilesAreServedThrough s turns =
    (before later : List Turn) (turn : Turn) (peer : Peer) (name : List ℕ) (asked : Options)
    → turns ≡ before ++ turn ∷ later → IsAccepted peer name asked turn
    → FileIsServed (tables_after s.tables before)
    (max (moment_after s.held.now before) turn.event.at.0) peer name asked turn later

abbrev pub FilesOfRuns : Type 0
FilesOfRuns =
    (s last : State) (turns : List Turn) → Run s turns last → FilesAreServedThrough s turns
