-- So many spares are in hand.
use Rattle.std.proofs.Common.{◌≡◌, ◌≤◌}
use Rattle.off_runs.proofs.free_runs.FreeRuns.ready.Given as goal

abbrev pub invariant-loop-held : goal.invariant-loop-held
invariant-loop-held l = record {
  room : l._held ≤ l.self.spare;
  at : l.self.at ≡ l.fn.self.at;
  pools : l.self.pools ≡ l.fn.self.pools;
}
