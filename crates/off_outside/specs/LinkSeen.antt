-- What is seen of a link.
use Rattle.std.specs.Prelude.{ℕ, List}
use Rattle.off_defs.specs.declared.events.Event.{Event}
use Rattle.off_defs.specs.declared.results.Sent.{Sent}

-- `left`, `sent` and `moments` may be told or not; where the link is `up`, one value at most is told
-- of each. `moments` has, of each item that was sent, the moment of the keeper at which it was.
-- `missed` is how many calls of `next` failed in a row, and `longest` the longest such row so far;
-- `faults` counts the failed calls of `next`, and `unsent` the items that weren't sent.
pub record LinkSeen : Type 1 where
  pub left : List Event → Type 0
  pub sent : List Sent → Type 0
  pub moments : List ℕ → Type 0
  pub up : Type 0
  pub missed : ℕ
  pub longest : ℕ
  pub faults : ℕ
  pub unsent : ℕ
