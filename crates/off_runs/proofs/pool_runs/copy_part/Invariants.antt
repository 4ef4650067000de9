-- Those from the low end up to the place are copied.
use Rattle.std.proofs.Common.{◌≡◌, ℕ, ◌≤◌, length, ◌&&◌, nat_le, nat_lt, cond}
use Rattle.off_runs.specs.Runs.{listed}
use Rattle.off_runs.proofs.pool_runs.copy_part.Given as goal

abbrev pub invariant-loop-at : goal.invariant-loop-at
invariant-loop-at l = record {
  part : (a : ℕ) → l.first ≤ a → listed l.first l.to.items a ≡ cond (nat_le l.low a && nat_lt a l.at) (listed l.from_first l.from.items a) (listed l.first l.fn.to.items a);
  len : length l.to.items ≡ length l.fn.to.items;
}
