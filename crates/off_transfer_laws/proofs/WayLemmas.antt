-- What a way says of what is read, and of the peer's transfer, by which it was chosen.
use Rattle.std.proofs.Common.{◌≡◌, ℕ, Bool, true, false, not, List, is_some, Option, Some, None, Result, Ok, Err, if◌then◌else◌, ◌==◌, refl, ap}
use Rattle.std.specs.FinMap as map
use Rattle.off_base.specs.declared.addresses.Ip4.{Ip4}
use Rattle.off_base.specs.declared.addresses.Peer.{Peer}
use Rattle.off_base.specs.declared.macs.Mac.{Mac}
use Rattle.off_defs.specs.declared.tables.Modem.{Modem}
use Rattle.off_defs.specs.State.{Transfer}
use Rattle.off_packets.specs.Packets.{Meant, Reads, Writes, Acknowledges, GivesUp, IsOther, packet_of}
use Rattle.off_packets.specs.declared.packets.Options.{Options}
use Rattle.off_transfer_rules.specs.Requests.{datagram_at, request_for, file_owner}
use Rattle.off_transfer_rules.specs.View.{View, holder, agrees}
use Rattle.off_transfer_rules.specs.Transfers.{Transfers, has_no_room, is_at_last}
use Rattle.off_transfer_rules.specs.Steps.{Way, Denies, Repeats, Accepts, Ignores, Finishes, BreaksOff, GoesOn, file_not_found, too_many_transfers, is_repeated, has_file, way_for_owner, owner_by_row, way_for_holder, way_anew, way_of_last, way_of, way}
use Rattle.off_packets.specs.declared.faults.PacketFault.{PacketFault}
use Rattle.off_transfer_laws.proofs.TextLemmas.{Fits, Fitting, packet_fits}
use Rattle.off_packets.specs.declared.faults.PacketFault.TheVariants as fault

pub record Accepting (v : View) (now : ℕ) (ip : Ip4) (mac : Mac) (owner : ℕ) (name : List ℕ) : Type 0 where
  pub modem : Modem
  pub held : holder now v ≡ Some mac
  pub modem_is : v.modem ≡ Some modem
  pub owned : modem.subscriber ≡ owner
  pub served : has_file v ip name mac ≡ true

-- a request is accepted where there is room, or a transfer of the peer; what is repeated or goes on is that transfer
abbrev pub Standing : View → ℕ → Ip4 → Bool → Option Transfer → Way → Type 0
Standing v now ip full live (Accepts request owner) = Accepting v now ip owner.modem owner.subscriber request.name × (full ≡ true → is_some live ≡ true) × Fits request.options
Standing v now ip full live (Repeats x) = live ≡ Some x
Standing v now ip full live (GoesOn x) = (live ≡ Some x) × (agrees v now ip x.name (file_owner x.modem x.subscriber) ≡ true) × (is_at_last x ≡ false)
Standing v now ip full live other = Unit {0}

module _ (v : View) (now : ℕ) (ip : Ip4) (full : Bool) (live : Option Transfer) where
  judged : (name : List ℕ) (asked : Options) → Fits asked → (mac : Mac) → holder now v ≡ Some mac → (modem : Modem) → v.modem ≡ Some modem
      → (served no_room : Bool) → has_file v ip name mac ≡ served → (no_room ≡ false → full ≡ true → is_some live ≡ true)
      → Standing v now ip full live (if not served then Denies file_not_found else if no_room then Denies too_many_transfers else Accepts (request_for name asked) (file_owner mac modem.subscriber))
  judged name asked fits mac held modem is false no_room served room = tt
  judged name asked fits mac held modem is true true served room = tt
  judged name asked fits mac held modem is true false served room = (record { modem = modem; held = held; modem_is = is; owned = refl; served = served }, room refl, fits)

  for_modem : (name : List ℕ) (asked : Options) → Fits asked → (no_room : Bool) → (no_room ≡ false → full ≡ true → is_some live ≡ true)
      → (mac : Mac) → holder now v ≡ Some mac → (modem : Option Modem) → v.modem ≡ modem
      → Standing v now ip full live (way_for_owner v ip no_room (request_for name asked) (owner_by_row mac modem))
  for_modem name asked fits no_room room mac held None is = tt
  for_modem name asked fits no_room room mac held (Some modem) is = judged name asked fits mac held modem is (has_file v ip name mac) no_room refl room

  for_holder : (name : List ℕ) (asked : Options) → Fits asked → (no_room : Bool) → (no_room ≡ false → full ≡ true → is_some live ≡ true)
      → (held : Option Mac) → holder now v ≡ held → Standing v now ip full live (way_for_holder v ip no_room (request_for name asked) held)
  for_holder name asked fits no_room room None held = tt
  for_holder name asked fits no_room room (Some mac) held = for_modem name asked fits no_room room mac held v.modem refl

  pub standing_anew : (name : List ℕ) (asked : Options) → Fits asked → (no_room : Bool) → (no_room ≡ false → full ≡ true → is_some live ≡ true)
      → Standing v now ip full live (way_anew v now ip no_room (request_for name asked))
  standing_anew name asked fits no_room room = for_holder name asked fits no_room room (holder now v) refl

  repeated : (x : Transfer) (name : List ℕ) (asked : Options) → Fits asked → live ≡ Some x → (b : Bool)
      → Standing v now ip full live (if b then Repeats x else way_anew v now ip false (request_for name asked))
  repeated x name asked fits is true = is
  repeated x name asked fits is false = standing_anew name asked fits false (λ e f. ap is_some is)

  last_by : (x : Transfer) → live ≡ Some x → (last agreed : Bool) → is_at_last x ≡ last → agrees v now ip x.name (file_owner x.modem x.subscriber) ≡ agreed
      → Standing v now ip full live (if last then Finishes else if agreed then GoesOn x else BreaksOff)
  last_by x is true agreed l e = tt
  last_by x is false true l e = (is, e, l)
  last_by x is false false l e = tt

  acknowledged : (x : Transfer) → live ≡ Some x → (b : Bool) → Standing v now ip full live (if b then way_of_last v now ip x else Ignores)
  acknowledged x is true = last_by x is (is_at_last x) (agrees v now ip x.name (file_owner x.modem x.subscriber)) refl refl
  acknowledged x is false = tt

-- each way stands
pub standing : (v : View) (now : ℕ) (from : Peer) (full : Bool) (bytes : List ℕ) (live : Option Transfer) (read : Result Meant PacketFault) → Fitting read
    → Standing v now from.ip full live (way_of v (datagram_at now from bytes) full live read)
standing v now from full bytes live (Err fault.Form) fits = tt
standing v now from full bytes live (Err fault.Mode) fits = tt
standing v now from full bytes live (Ok IsOther) fits = tt
standing v now from full bytes live (Ok Writes) fits = tt
standing v now from full bytes live (Ok GivesUp) fits = tt
standing v now from full bytes None (Ok (Reads name asked)) fits = standing_anew v now from.ip full None name asked fits full (λ e f. cc)
standing v now from full bytes (Some x) (Ok (Reads name asked)) fits = repeated v now from.ip full (Some x) x name asked fits refl (is_repeated bytes x)
standing v now from full bytes None (Ok (Acknowledges number)) fits = tt
standing v now from full bytes (Some x) (Ok (Acknowledges number)) fits = acknowledged v now from.ip full (Some x) x refl (number == x.sent)

pub standing_way : (v : View) (now : ℕ) (xs : Transfers) (from : Peer) (bytes : List ℕ)
    → Standing v now from.ip (has_no_room xs) (map.get xs from) (way v xs (datagram_at now from bytes))
unfolding way
standing_way v now xs from bytes = standing v now from (has_no_room xs) bytes (map.get xs from) (packet_of bytes) (packet_fits bytes)
