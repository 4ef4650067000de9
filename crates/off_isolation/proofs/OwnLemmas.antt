-- The transfers of an address among all: by peer, and entry by entry.
use Rattle.std.proofs.Common.{◌≡◌, ℕ, ◌≤◌, nat_le, Bool, true, false, cond, not, T, List, [], ◌∷◌, ◌++◌, length, Option, Some, None, refl, sym, ap, ◌∙◌, arith}
use Rattle.std.proofs.lemmas.Bool.{leb-true, leb-false}
use Rattle.std.proofs.lemmas.List.Elements.{filter-append}
use Rattle.std.proofs.lemmas.List.Filters.{length-filter_both}
use Rattle.std.specs.List.{filter, flat_map}
use Rattle.std.specs.Ordering.{eq_by_cmp}
use Rattle.std.specs.FinMap as map
use Rattle.std.specs.FinMap.Entries.{where_key, is_sorted-where_key, find-where_key}
use Rattle.off_base.specs.declared.addresses.Ip4.{Ip4}
use Rattle.off_base.specs.declared.addresses.Peer.{Peer}
use Rattle.off_defs.specs.declared.results.Sent.{Sent}
use Rattle.off_defs.specs.State.{Transfer, peer_cmp}
use Rattle.off_transfer_rules.specs.Transfers.{Transfers, has_no_room, last_packet, packet_to}
use Rattle.off_transfer_rules.specs.Ticks.{is_resent, tick_items}
use Rattle.off_transfer_rules.proofs.PeerLemmas.{peer_exact, same_peer, inserted, removed, same_transfers}
use Rattle.off_isolation.specs.Own.{is_at, goes_to, items_to}
use Rattle.off_isolation.specs.Alone.{AreOwn}

-- ---- by peer

pub own_here : (ip : Ip4) (xs own : Transfers) → AreOwn ip xs own → (peer : Peer) → is_at ip peer ≡ true → map.get own peer ≡ map.get xs peer
own_here ip xs own are peer here = are peer ∙ ap (λ b. cond b (map.get xs peer) None) here

-- one peer's transfer is another, or gone
changed : (ip : Ip4) (xs own : Transfers) → AreOwn ip xs own → (from : Peer) → is_at ip from ≡ true → (o : Option Transfer) (peer : Peer)
    → (tied : Bool) → eq_by_cmp peer_cmp peer from ≡ tied
    → cond tied o (map.get own peer) ≡ cond (is_at ip peer) (cond tied o (map.get xs peer)) None
changed ip xs own are from here o peer true e = sym (ap (λ b. cond b o None) (ap (is_at ip) (same_peer peer from e) ∙ here))
changed ip xs own are from here o peer false e = are peer

pub own_inserted : (ip : Ip4) (xs own : Transfers) → AreOwn ip xs own → (from : Peer) → is_at ip from ≡ true → (x : Transfer)
    → AreOwn ip (map.insert xs from x) (map.insert own from x)
own_inserted ip xs own are from here x peer =
    inserted own from x peer
    ∙ changed ip xs own are from here (Some x) peer (eq_by_cmp peer_cmp peer from) refl
    ∙ ap (λ (o : Option Transfer). cond (is_at ip peer) o None) (sym (inserted xs from x peer))

pub own_removed : (ip : Ip4) (xs own : Transfers) → AreOwn ip xs own → (from : Peer) → is_at ip from ≡ true
    → AreOwn ip (map.remove xs from) (map.remove own from)
own_removed ip xs own are from here peer =
    removed own from peer
    ∙ changed ip xs own are from here None peer (eq_by_cmp peer_cmp peer from) refl
    ∙ ap (λ (o : Option Transfer). cond (is_at ip peer) o None) (sym (removed xs from peer))

-- where no transfer is live there are none of the address
none_by : (b : Bool) (o : Option Transfer) → o ≡ None → o ≡ cond b o None
none_by true o e = refl
none_by false o e = e

pub own_of_none : (ip : Ip4) → AreOwn ip map.empty map.empty
own_of_none ip peer =
    none_by (is_at ip peer) (map.get map.empty peer) (map.get-empty peer_cmp peer)

-- transfers that are the same to the address
pub own_of_same : (ip : Ip4) (xs ys own : Transfers) → ((peer : Peer) (here : Bool) → is_at ip peer ≡ here → here ≡ true → map.get xs peer ≡ map.get ys peer)
    → AreOwn ip xs own → AreOwn ip ys own
own_of_same ip xs ys own same are peer = are peer ∙ both (is_at ip peer) refl
  where
    both : (here : Bool) → is_at ip peer ≡ here → cond here (map.get xs peer) None ≡ cond here (map.get ys peer) None
    both true e = same peer true e refl
    both false e = refl

-- ---- entry by entry

abbrev own_list : Ip4 → Transfers → List (Peer × Transfer)
own_list ip xs = where_key peer_cmp (is_at ip) (map.entries xs)

abbrev pub own_map : Ip4 → Transfers → Transfers
own_map ip xs = map.from_sorted (own_list ip xs)

own_sorted : (ip : Ip4) (xs : Transfers) → T (map.is_sorted peer_cmp (own_list ip xs))
own_sorted ip xs = is_sorted-where_key peer_cmp (is_at ip) (map.entries xs) (map.entries_sorted xs)

pub own_of : (ip : Ip4) (xs : Transfers) → AreOwn ip xs (own_map ip xs)
own_of ip xs peer =
    map.get-from_sorted peer_cmp (own_list ip xs) peer (own_sorted ip xs)
    ∙ find-where_key peer_cmp (is_at ip) peer (λ x e. ap (is_at ip) (sym (peer_exact peer x e))) (map.entries xs)
    ∙ ap (λ (o : Option Transfer). cond (is_at ip peer) o None) (sym (map.get-entries xs peer))

pub own_entries : (ip : Ip4) (xs own : Transfers) → AreOwn ip xs own → map.entries own ≡ own_list ip xs
own_entries ip xs own are =
    ap map.entries (same_transfers own (own_map ip xs) (λ peer. are peer ∙ sym (own_of ip xs peer)))
    ∙ map.entries-from_sorted peer_cmp (own_list ip xs) (own_sorted ip xs)

-- they are no more than all
own_len : (ip : Ip4) (xs own : Transfers) → AreOwn ip xs own → map.len own ≤ map.len xs
own_len ip xs own are =
    let one : map.len own ≡ length (own_list ip xs) = map.len-entries own ∙ ap length (own_entries ip xs own are) in
    let all : map.len xs ≡ length (map.entries xs) = map.len-entries xs in
    let parts = length-filter_both (λ (e : Peer × Transfer). is_at ip e.0) (λ (e : Peer × Transfer). not (is_at ip e.0)) (λ e. refl) (map.entries xs) in
    omega (arith, one, all, parts)

full_both : (few many : ℕ) (full : Bool) → nat_le 256 many ≡ full → few ≤ many → nat_le 256 few ≡ true → full ≡ true
full_both few many true e less room = refl
full_both few many false e less room = absurd (omega (arith, leb-false 256 many e, leb-true 256 few room, less))

-- so where they alone take all room, there is none
pub own_room : (ip : Ip4) (xs own : Transfers) → AreOwn ip xs own → has_no_room own ≡ true → has_no_room xs ≡ true
own_room ip xs own are full = full_both (map.len own) (map.len xs) (nat_le 256 (map.len xs)) refl (own_len ip xs own are) full

-- ---- what a Tick sends to the address is what it sends for these

kept_one : (ip : Ip4) (p : Sent) (here again : Bool) → goes_to ip p ≡ here → filter (goes_to ip) (cond again (p ∷ []) []) ≡ cond here (cond again (p ∷ []) []) []
kept_one ip p true true e = ap (λ b. cond b (p ∷ []) []) e
kept_one ip p false true e = ap (λ b. cond b (p ∷ []) []) e
kept_one ip p true false e = refl
kept_one ip p false false e = refl

kept_front : (now : ℕ) (e : Peer × Transfer) (es : List (Peer × Transfer)) (here : Bool)
    → cond here (tick_items now e) [] ++ flat_map (tick_items now) es ≡ flat_map (tick_items now) (cond here (e ∷ es) es)
kept_front now e es true = refl
kept_front now e es false = refl

kept_items : (ip : Ip4) (now : ℕ) (es : List (Peer × Transfer))
    → items_to ip (flat_map (tick_items now) es) ≡ flat_map (tick_items now) (where_key peer_cmp (is_at ip) es)
kept_items ip now [] = refl
kept_items ip now (e ∷ es) =
    filter-append (goes_to ip) (tick_items now e) (flat_map (tick_items now) es)
    ∙ ap (λ rest. items_to ip (tick_items now e) ++ rest) (kept_items ip now es)
    ∙ ap (λ front. front ++ flat_map (tick_items now) (where_key peer_cmp (is_at ip) es)) (kept_one ip (packet_to e.0 (last_packet e.1)) (is_at ip e.0) (is_resent now e.1) refl)
    ∙ kept_front now e (where_key peer_cmp (is_at ip) es) (is_at ip e.0)

pub own_items : (ip : Ip4) (now : ℕ) (xs own : Transfers) → AreOwn ip xs own
    → items_to ip (flat_map (tick_items now) (map.entries xs)) ≡ flat_map (tick_items now) (map.entries own)
own_items ip now xs own are = kept_items ip now (map.entries xs) ∙ ap (flat_map (tick_items now)) (sym (own_entries ip xs own are))
