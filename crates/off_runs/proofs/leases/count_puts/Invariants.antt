-- Those of the writes so far are counted.
use Rattle.std.proofs.Common.{◌≡◌, ◌≤◌, take}
use Rattle.off_runs.specs.Leases.{pool_puts}
use Rattle.off_runs.proofs.leases.count_puts.Given as goal

abbrev pub invariant-loop-place : goal.invariant-loop-place
invariant-loop-place l = record {
  puts : l.puts ≡ pool_puts (take l.place l.writes);
  few : l.puts ≤ l.place;
}
