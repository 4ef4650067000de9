-- Where a peer has no transfer, what goes to it is what goes while any packet of any file stands out:
-- so no block does.
use Rattle.std.proofs.Common.{◌≡◌, ℕ, false, List, [], ◌∷◌}
use Rattle.std.specs.List.{AllByRecursion}
use Rattle.off_base.specs.declared.addresses.Peer.{Peer}
use Rattle.off_book.specs.Run.{Turn}
use Rattle.off_transfer_runs.specs.Turns.{Fate, Remains, Moves, Ends, Breaks, fate, packets_to, is_data}
use Rattle.off_transfer_runs.specs.Served.{IsAgain, GoBy, BlocksGo}
use Rattle.off_transfer_runs.specs.Closed.{QuietBy, NoBlockGoes, ClosedAreQuiet}
use Rattle.off_transfer_runs.proofs.Turned.{gone}
use Rattle.off_transfer_runs.proofs.Events.{run_goes}

none_data : (packets : List (List ℕ)) → AllByRecursion (IsAgain [] 0 0) packets → AllByRecursion (λ packet. is_data packet ≡ false) packets
none_data [] all = tt
none_data (packet ∷ packets) all = (all.0, none_data packets all.1)

two_numbers : (number : ℕ) → number ≡ 0 → number ≡ 1 → ⊥
two_numbers number one other = cc

quiet_by : (f : Fate) (packets : List (List ℕ)) (One Other : ℕ → Type 0) (Later : Type 0) → GoBy f [] 0 0 packets One → GoBy f [] 0 1 packets Other
    → (One 0 → Other 1 → Later) → QuietBy f packets Later
quiet_by Remains packets One Other Later one other later = (none_data packets one.0, later one.1 other.1)
quiet_by (Moves number) packets One Other Later one other later = two_numbers number one.0.number_is other.0.number_is
quiet_by (Ends number) packets One Other Later one other later = two_numbers number one.number_is other.number_is
quiet_by Breaks packets One Other Later one other later = tt

quiet : (peer : Peer) (turns : List Turn) → BlocksGo peer [] 0 0 turns → BlocksGo peer [] 0 1 turns → NoBlockGoes peer turns
quiet peer [] one other = tt
quiet peer (turn ∷ turns) one other =
    quiet_by (fate peer turn) (packets_to peer turn.said.items) (λ n. BlocksGo peer [] 0 n turns) (λ n. BlocksGo peer [] 0 n turns) (NoBlockGoes peer turns) one other
    (λ a b. quiet peer turns a b)

pub closed_are_quiet : ClosedAreQuiet
closed_are_quiet s last turns peer run none = quiet peer turns (run_goes peer [] 0 0 s last turns run (gone none)) (run_goes peer [] 0 1 s last turns run (gone none))
