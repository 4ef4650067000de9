-- What a way means for the transfer of its peer: by what the datagram says, by the word that the way
-- gives, and by the transfer for which it was chosen.
use Rattle.std.proofs.Common.{◌≡◌, ℕ, suc, Bool, true, false, not, if◌then◌else◌, ◌==◌, List, Option, Some, None, Result, Ok, Err, refl, ap}
use Rattle.std.proofs.lemmas.Bool.{eqb-true}
use Rattle.std.specs.FinMap as map
use Rattle.off_base.specs.declared.addresses.Ip4.{Ip4}
use Rattle.off_base.specs.declared.addresses.Peer.{Peer}
use Rattle.off_base.specs.declared.macs.Mac.{Mac}
use Rattle.off_defs.specs.declared.tables.Modem.{Modem}
use Rattle.off_defs.specs.State.{Transfer}
use Rattle.off_packets.specs.Packets.{Meant, Reads, Writes, Acknowledges, GivesUp, IsOther, packet_of, has_option}
use Rattle.off_packets.specs.declared.packets.Options.{Options}
use Rattle.off_transfer_rules.specs.Requests.{datagram_at, request_for, file_owner}
use Rattle.off_transfer_rules.specs.View.{View, holder, agrees}
use Rattle.off_transfer_rules.specs.Transfers.{Transfers, has_no_room, first_word, is_at_last}
use Rattle.off_transfer_rules.specs.Steps.{Way, Denies, Repeats, Accepts, Ignores, Finishes, BreaksOff, GoesOn, Leaves, file_not_found, too_many_transfers, is_repeated, has_file, way_for_owner, owner_by_row, way_for_holder, way_anew, way_of_last, way_of, way}
use Rattle.off_transfer_rules.specs.Words.{tftp_line}
use Rattle.off_packets.specs.declared.faults.PacketFault.{PacketFault}
use Rattle.off_packets.specs.declared.faults.PacketFault.TheVariants as fault
use Rattle.off_transfer_rules.specs.declared.words.TftpWord.TheVariants as word
use Rattle.off_transfer_runs.specs.Turns.{Fate, Remains, Moves, Ends, Breaks, fate_of}

-- the last block was acknowledged
pub record IsLast (live : Option Transfer) (fate : Fate) : Type 0 where
  pub x : Transfer
  pub live_is : live ≡ Some x
  pub last : is_at_last x ≡ true
  pub ends : fate ≡ Ends x.sent

pub record IsNext (live : Option Transfer) (x : Transfer) (fate : Fate) : Type 0 where
  pub live_is : live ≡ Some x
  pub more : is_at_last x ≡ false
  pub moves : fate ≡ Moves x.sent

abbrev pub Means : Option Transfer → Result Meant PacketFault → Way → Type 0
Means live read (Denies denial) = fate_of read (tftp_line denial.word) ≡ Remains
Means live read (Repeats x) = (live ≡ Some x) × (fate_of read (tftp_line word.Again) ≡ Remains)
Means live read (Accepts request owner) = (read ≡ Ok (Reads request.name request.options)) × (fate_of read (tftp_line (first_word request.options)) ≡ Breaks)
Means live read Ignores = fate_of read (tftp_line word.StaleAck) ≡ Remains
Means live read Finishes = IsLast live (fate_of read (tftp_line word.Done))
Means live read BreaksOff = fate_of read (tftp_line word.Agreement) ≡ Breaks
Means live read (GoesOn x) = IsNext live x (fate_of read (tftp_line (word.Block (suc x.sent))))
Means live read Leaves = fate_of read (tftp_line word.PeerError) ≡ Breaks

accepted_breaks : (name : List ℕ) (asked : Options) (any : Bool) → fate_of (Ok (Reads name asked)) (tftp_line (if any then word.Oack else word.Block 1)) ≡ Breaks
accepted_breaks name asked true = refl
accepted_breaks name asked false = refl

module _ (v : View) (now : ℕ) (ip : Ip4) (bytes : List ℕ) (live : Option Transfer) where
  judged : (name : List ℕ) (asked : Options) (mac : Mac) (modem : Modem) (served no_room : Bool)
      → Means live (Ok (Reads name asked))
      (if not served then Denies file_not_found else if no_room then Denies too_many_transfers else Accepts (request_for name asked) (file_owner mac modem.subscriber))
  judged name asked mac modem false no_room = refl
  judged name asked mac modem true true = refl
  judged name asked mac modem true false = (refl, accepted_breaks name asked (has_option asked))

  for_modem : (name : List ℕ) (asked : Options) (no_room : Bool) (mac : Mac) (modem : Option Modem)
      → Means live (Ok (Reads name asked)) (way_for_owner v ip no_room (request_for name asked) (owner_by_row mac modem))
  for_modem name asked no_room mac None = refl
  for_modem name asked no_room mac (Some modem) = judged name asked mac modem (has_file v ip name mac) no_room

  for_holder : (name : List ℕ) (asked : Options) (no_room : Bool) (held : Option Mac) → Means live (Ok (Reads name asked)) (way_for_holder v ip no_room (request_for name asked) held)
  for_holder name asked no_room None = refl
  for_holder name asked no_room (Some mac) = for_modem name asked no_room mac v.modem

  anew : (name : List ℕ) (asked : Options) (no_room : Bool) → Means live (Ok (Reads name asked)) (way_anew v now ip no_room (request_for name asked))
  anew name asked no_room = for_holder name asked no_room (holder now v)

  repeated : (x : Transfer) (name : List ℕ) (asked : Options) → live ≡ Some x → (b : Bool)
      → Means live (Ok (Reads name asked)) (if b then Repeats x else way_anew v now ip false (request_for name asked))
  repeated x name asked is true = (is, refl)
  repeated x name asked is false = anew name asked false

  last_by : (x : Transfer) (number : ℕ) → live ≡ Some x → number ≡ x.sent → (last agreed : Bool) → is_at_last x ≡ last
      → Means live (Ok (Acknowledges number)) (if last then Finishes else if agreed then GoesOn x else BreaksOff)
  last_by x number is same true agreed last = record { x = x; live_is = is; last = last; ends = ap Ends same }
  last_by x number is same false true last = record { live_is = is; more = last; moves = ap Moves same }
  last_by x number is same false false last = refl

  acknowledged : (x : Transfer) (number : ℕ) → live ≡ Some x → (b : Bool) → (number == x.sent) ≡ b
      → Means live (Ok (Acknowledges number)) (if b then way_of_last v now ip x else Ignores)
  acknowledged x number is true e = last_by x number is (eqb-true number x.sent e) (is_at_last x) (agrees v now ip x.name (file_owner x.modem x.subscriber)) refl
  acknowledged x number is false e = refl

means : (v : View) (now : ℕ) (from : Peer) (full : Bool) (bytes : List ℕ) (live : Option Transfer) (read : Result Meant PacketFault)
    → Means live read (way_of v (datagram_at now from bytes) full live read)
means v now from full bytes live (Err fault.Form) = refl
means v now from full bytes live (Err fault.Mode) = refl
means v now from full bytes live (Ok IsOther) = refl
means v now from full bytes live (Ok Writes) = refl
means v now from full bytes live (Ok GivesUp) = refl
means v now from full bytes None (Ok (Reads name asked)) = anew v now from.ip bytes None name asked full
means v now from full bytes (Some x) (Ok (Reads name asked)) = repeated v now from.ip bytes (Some x) x name asked refl (is_repeated bytes x)
means v now from full bytes None (Ok (Acknowledges number)) = refl
means v now from full bytes (Some x) (Ok (Acknowledges number)) = acknowledged v now from.ip bytes (Some x) x number refl (number == x.sent) refl

pub means_way : (v : View) (now : ℕ) (xs : Transfers) (from : Peer) (bytes : List ℕ) → Means (map.get xs from) (packet_of bytes) (way v xs (datagram_at now from bytes))
unfolding way
means_way v now xs from bytes = means v now from (has_no_room xs) bytes (map.get xs from) (packet_of bytes)
