-- The entries are in order, so that those in front of the peer's place are the ones that it is above.
use Rattle.std.proofs.Common.{◌≡◌, rules, sym, ap, ◌∙◌, subst, List}
use Rattle.std.specs.List.{prefix_len}
use Rattle.std.specs.List.Sorted.{IsPartitionedBy}
use Rattle.std.specs.Ordering.{is_gt}
use Rattle.std.specs.FinMap as map
use Rattle.std.proofs.lemmas.List.Sorted.{IsPartitionPoint-from_clause}
use Rattle.off_base.specs.declared.addresses.Peer.{Peer}
use Rattle.off_defs.specs.State.{Transfer, peer_cmp}
use Rattle.off_transfer_rules.proofs.PeerLemmas.{peer_total}
use Rattle.off_tftp.proofs.EntryLemmas.{true_T}
use Rattle.off_tftp.proofs.KeptLemmas.{point_is, parted}
use Rattle.off_tftp.proofs.transfers.place_of.Goals as goal

pub returns-clause-place : goal.returns-clause-place
returns-clause-place c =
    let same : c.deref.result.now ≡ c.args.entries.now.items = c.deref.ensures.value in
    let inside = parted peer_cmp c.args.peer peer_total c.args.entries.now.items (true_T (map.is_sorted peer_cmp c.args.entries.now.items) c.requires) in
    let parts = IsPartitionPoint-from_clause (λ (entry : Peer × Transfer). is_gt (peer_cmp c.args.peer entry.0)) c.deref.result.now _ c.partition_point.ensures.partitioned
    (subst (IsPartitionedBy (λ (entry : Peer × Transfer). is_gt (peer_cmp c.args.peer entry.0))) (sym same) inside) (λ a r f k. search rules) in
    point_is (λ (entry : Peer × Transfer). is_gt (peer_cmp c.args.peer entry.0)) c.deref.result.now c.partition_point.result c.partition_point.ensures.bound parts
    ∙ ap (λ (l : List (Peer × Transfer)). prefix_len (λ (entry : Peer × Transfer). is_gt (peer_cmp c.args.peer entry.0)) l) same
