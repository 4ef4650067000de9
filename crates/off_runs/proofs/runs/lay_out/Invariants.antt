-- The addresses so far are laid out, and the soonest of their expiries ahead is known.
use Rattle.std.proofs.Common.{◌≡◌, ℕ, ◌<◌, ◌≤◌, true}
use Rattle.std.specs.Vec.{vec_capacity}
use Rattle.off_runs.specs.Runs.{in_pool, listed}
use Rattle.off_runs.proofs.RunLemmas.{Begun}
use Rattle.off_runs.proofs.runs.lay_out.Given as goal

abbrev pub invariant-loop-at : goal.invariant-loop-at
invariant-loop-at l = record {
  begun : Begun (listed l.pool.first.0 l.expiries) l.now.0 l.pool l.runs.items l.start l.at;
  soonest : (a : ℕ) → in_pool l.pool a ≡ true → a < l.at → l.now.0 < listed l.pool.first.0 l.expiries a → l.soonest ≤ listed l.pool.first.0 l.expiries a;
  capacity : vec_capacity l.fn.runs ≤ vec_capacity l.runs;
}
