-- Transfers as they are held: each behind its peer, in ascending order of peers.
use Rattle.std.specs.Prelude.{◌≡◌, ℕ, Bool, true, false, List, [], ◌∷◌, Option, Some, None, is_some, IsTrue}
use Rattle.std.specs.List.{prefix_len, flat_map}
use Rattle.std.specs.Ordering.{is_gt, is_eq}
use Rattle.std.specs.FinMap as map
use Rattle.std.specs.Coded.{Coded}
use Rattle.off_base.specs.declared.addresses.Peer.{Peer}
use Rattle.off_defs.specs.State.{Transfer, peer_cmp}
use Rattle.off_defs.specs.Codes.{peer_code, transfer_code}
use Rattle.off_transfer_rules.specs.Transfers.{Transfers, has_no_room}
use Rattle.off_transfer_rules.specs.Ticks.{tick_of}

abbrev pub Entries : Type 0
Entries = List (Peer × Transfer)

abbrev pub AreKept : Entries → Type 0
AreKept entries = IsTrue (map.is_sorted peer_cmp entries)

-- how many stand before a peer's place
abbrev pub place_of : Peer → Entries → ℕ
place_of peer entries = prefix_len (λ entry. is_gt (peer_cmp peer entry.0)) entries

-- whether the peer's own stands in front
abbrev pub is_in_front : Peer → Entries → Bool
is_in_front peer [] = false
is_in_front peer (entry ∷ entries) = is_eq (peer_cmp peer entry.0)

-- there is room for a peer's transfer, or one to be replaced
abbrev pub HasRoomFor : Transfers → Peer → Type 0
HasRoomFor transfers peer =
    has_no_room transfers ≡ true → IsTrue (is_some (map.get transfers peer))

-- a peer's transfer is changed, where it has one
abbrev pub changed_by : Option Transfer → Transfers → Peer → (Transfer → Transfer) → Transfers
changed_by None transfers peer change = transfers
changed_by (Some x) transfers peer change = map.insert transfers peer (change x)

abbrev pub changed : Transfers → Peer → (Transfer → Transfer) → Transfers
changed transfers peer change = changed_by (map.get transfers peer) transfers peer change

-- the code of such a map, by which a proof tells two of them apart
abbrev pub transfers_code : Coded Transfers
transfers_code = map.code peer_code transfer_code

-- ---- a Tick, entry by entry

abbrev pub left_at : Peer → Option Transfer → Entries
left_at peer None = []
left_at peer (Some x) = (peer, x) ∷ []

abbrev pub tick_left : ℕ → Peer × Transfer → Entries
tick_left now entry = left_at entry.0 (tick_of now entry.1)

abbrev pub ticked_list : ℕ → Entries → Entries
ticked_list now entries = flat_map (tick_left now) entries
