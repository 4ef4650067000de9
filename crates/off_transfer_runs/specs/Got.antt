-- What a peer has acknowledged, and what it has got, over the turns behind the one in which its
-- read request was accepted: up to the first in which its transfer ends.
use Rattle.std.specs.Prelude.{◌≡◌, ℕ, zero, suc, Bool, true, false, List, [], ◌∷◌, ◌++◌}
use Rattle.off_base.specs.declared.addresses.Peer.{Peer}
use Rattle.off_book.specs.Run.{Turn}
use Rattle.off_transfer_runs.specs.Turns.{Fate, Remains, Moves, Ends, Breaks, fate, block_given}

-- ---- the numbers of the blocks that were acknowledged: number 0 is the OACK's

abbrev pub with_number : ℕ → List ℕ → List ℕ
with_number zero numbers = numbers
with_number (suc before) numbers = suc before ∷ numbers

abbrev pub acked_by : Fate → List ℕ → List ℕ
acked_by Remains later = later
acked_by (Moves number) later = with_number number later
acked_by (Ends number) later = with_number number []
acked_by Breaks later = []

abbrev pub acked : Peer → List Turn → List ℕ
acked peer [] = []
acked peer (turn ∷ turns) = acked_by (fate peer turn) (acked peer turns)

-- numbers one behind another, without a gap
abbrev pub CountUp : ℕ → List ℕ → Type 0
CountUp from [] = Unit {0}
CountUp from (number ∷ numbers) = (number ≡ from) × CountUp (suc from) numbers

-- ---- the blocks that were acknowledged, joined. `stands` is the block that was given and isn't
-- acknowledged yet, with no bytes while the OACK isn't; `given` is what the turn gives

abbrev pub got_by : Fate → List ℕ → List ℕ → (List ℕ → List ℕ) → List ℕ
got_by Remains stands given later = later stands
got_by (Moves number) stands given later = stands ++ later given
got_by (Ends number) stands given later = stands
got_by Breaks stands given later = []

abbrev pub got : Peer → List ℕ → List Turn → List ℕ
got peer stands [] = []
got peer stands (turn ∷ turns) =
    got_by (fate peer turn) stands (block_given peer turn) (λ block. got peer block turns)

-- ---- the transfer ends by the acknowledgement of its last block

abbrev pub is_done_by : Fate → Bool → Bool
is_done_by Remains later = later
is_done_by (Moves number) later = later
is_done_by (Ends number) later = true
is_done_by Breaks later = false

abbrev pub is_done : Peer → List Turn → Bool
is_done peer [] = false
is_done peer (turn ∷ turns) = is_done_by (fate peer turn) (is_done peer turns)
