-- Those so far are 0.
use Rattle.std.proofs.Common.{◌≡◌, ℕ, ◌<◌, length, get_or}
use Rattle.off_runs.proofs.pool_runs.clear.Given as goal

abbrev pub invariant-loop-expiry : goal.invariant-loop-expiry
invariant-loop-expiry l = record {
  none : (k : ℕ) → k < l.expiry-index → get_or l.expiry-items k 0 ≡ 0;
  len : length l.expiry-items ≡ length l.fn.expiries.items;
}
