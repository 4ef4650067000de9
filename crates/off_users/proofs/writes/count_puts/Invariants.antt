-- Those of the writes so far are counted.
use Rattle.std.proofs.Common.{◌≡◌, ◌≤◌, take}
use Rattle.off_users.specs.Writes.{modem_puts}
use Rattle.off_users.proofs.writes.count_puts.Given as goal

abbrev pub invariant-loop-place : goal.invariant-loop-place
invariant-loop-place l = record {
  puts : l.puts ≡ modem_puts (take l.place l.writes);
  few : l.puts ≤ l.place;
}
