-- The order of peers is total, and peers that it takes for equal are equal; and what stands in maps by
-- peer, here and apart.
use Rattle.std.proofs.Common.{◌≡◌, ◌≢◌, true, false, cond, Some, None, refl, ap, ◌∙◌}
use Rattle.std.specs.Cmp.{IsTotalOrder, on_total, then_total, tied_itself, nat_cmp_total}
use Rattle.std.specs.Ordering.{nat_cmp, is_eq, eq_by_cmp, ordering_then}
use Rattle.std.specs.declared.cmp.Ordering.{Ordering}
use Rattle.std.specs.declared.cmp.Ordering.TheVariants.{Less, Equal, Greater}
use Rattle.std.specs.FinMap as map
use Rattle.std.specs.FinMap.{IsAntisymmetric, nat_cmp-IsAntisymmetric}
use Rattle.off_base.specs.declared.addresses.Peer.{Peer}
use Rattle.off_defs.specs.State.{Transfer, peer_cmp}
use Rattle.off_transfer_rules.specs.Transfers.{Transfers}

pub peer_total : IsTotalOrder peer_cmp
peer_total = then_total (on_total (λ (peer : Peer). peer.ip.0) nat_cmp_total) (on_total (λ (peer : Peer). peer.port) nat_cmp_total)

-- two comparisons in a row that find nothing differ in neither
neither : (a b : Ordering) → ordering_then a b ≡ Equal → (a ≡ Equal) × (b ≡ Equal)
neither Less b e = cc
neither Equal b e = (refl, e)
neither Greater b e = cc

pub peer_exact : IsAntisymmetric peer_cmp
peer_exact a b e =
    let both = neither (nat_cmp a.ip.0 b.ip.0) (nat_cmp a.port b.port) e in
    let ips : a.ip.0 ≡ b.ip.0 = nat_cmp-IsAntisymmetric a.ip.0 b.ip.0 both.0 in
    let ports : a.port ≡ b.port = nat_cmp-IsAntisymmetric a.port b.port both.1 in
    λ i. record { ip = record { 0 = ips i }; port = ports i }

equal_by : (o : Ordering) → is_eq o ≡ true → o ≡ Equal
equal_by Less e = cc
equal_by Equal e = refl
equal_by Greater e = cc

-- a peer is itself, and another one isn't
pub own_peer : (a : Peer) → eq_by_cmp peer_cmp a a ≡ true
own_peer a = ap is_eq (tied_itself peer_total a)

pub same_peer : (a b : Peer) → eq_by_cmp peer_cmp a b ≡ true → a ≡ b
same_peer a b e = peer_exact a b (equal_by (peer_cmp a b) e)

apart_by : (a b : Peer) → a ≢ b → (t : _) → eq_by_cmp peer_cmp a b ≡ t → eq_by_cmp peer_cmp a b ≡ false
apart_by a b apart true e = absurd (apart (same_peer a b e))
apart_by a b apart false e = e

pub other_peer : (a b : Peer) → a ≢ b → eq_by_cmp peer_cmp a b ≡ false
other_peer a b apart = apart_by a b apart (eq_by_cmp peer_cmp a b) refl

-- ---- the transfer of a peer after an insertion and after a removal

pub inserted : (xs : Transfers) (from : Peer) (x : Transfer) (peer : Peer)
    → map.get (map.insert xs from x) peer ≡ cond (eq_by_cmp peer_cmp peer from) (Some x) (map.get xs peer)
inserted xs from x peer = map.get-insert peer_total xs from x peer

pub inserted_here : (xs : Transfers) (from : Peer) (x : Transfer) → map.get (map.insert xs from x) from ≡ Some x
inserted_here xs from x = inserted xs from x from ∙ ap (λ b. cond b (Some x) (map.get xs from)) (own_peer from)

pub inserted_apart : (xs : Transfers) (from : Peer) (x : Transfer) (peer : Peer) → peer ≢ from → map.get (map.insert xs from x) peer ≡ map.get xs peer
inserted_apart xs from x peer apart = inserted xs from x peer ∙ ap (λ b. cond b (Some x) (map.get xs peer)) (other_peer peer from apart)

pub removed : (xs : Transfers) (from peer : Peer) → map.get (map.remove xs from) peer ≡ cond (eq_by_cmp peer_cmp peer from) None (map.get xs peer)
removed xs from peer = map.get-remove peer_total xs from peer

pub removed_here : (xs : Transfers) (from : Peer) → map.get (map.remove xs from) from ≡ None
removed_here xs from = removed xs from from ∙ ap (λ b. cond b None (map.get xs from)) (own_peer from)

pub removed_apart : (xs : Transfers) (from peer : Peer) → peer ≢ from → map.get (map.remove xs from) peer ≡ map.get xs peer
removed_apart xs from peer apart = removed xs from peer ∙ ap (λ b. cond b None (map.get xs peer)) (other_peer peer from apart)

-- transfers in which each peer has the same are the same
pub same_transfers : (xs ys : Transfers) → ((peer : Peer) → map.get xs peer ≡ map.get ys peer) → xs ≡ ys
same_transfers xs ys same = map.same_map peer_total peer_exact xs ys same
