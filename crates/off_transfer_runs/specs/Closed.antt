-- Why a Tick that closes a transfer is no fate of its own: a peer that has no transfer is given no
-- block, and nothing that it acknowledges counts, until a read request of it is accepted.
use Rattle.std.specs.Prelude.{◌≡◌, ℕ, false, List, [], ◌∷◌, None}
use Rattle.std.specs.List.{AllByRecursion}
use Rattle.std.specs.FinMap as map
use Rattle.off_base.specs.declared.addresses.Peer.{Peer}
use Rattle.off_defs.specs.State.{State}
use Rattle.off_book.specs.Run.{Turn, Run}
use Rattle.off_transfer_runs.specs.Turns.{Fate, Remains, Moves, Ends, Breaks, fate, packets_to, is_data}

abbrev pub QuietBy : Fate → List (List ℕ) → Type 0 → Type 0
QuietBy Remains packets Later = AllByRecursion (λ packet. is_data packet ≡ false) packets × Later
QuietBy (Moves number) packets Later = ⊥
QuietBy (Ends number) packets Later = ⊥
QuietBy Breaks packets Later = Unit {0}

abbrev pub NoBlockGoes : Peer → List Turn → Type 0
NoBlockGoes peer [] = Unit {0}
NoBlockGoes peer (turn ∷ turns) =
    QuietBy (fate peer turn) (packets_to peer turn.said.items) (NoBlockGoes peer turns)

abbrev pub ClosedAreQuiet : Type 0
ClosedAreQuiet =
    (s last : State) (turns : List Turn) (peer : Peer) → Run s turns last
    → map.get s.held.transfers peer ≡ None → NoBlockGoes peer turns
