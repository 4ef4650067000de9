-- None of the writes so far puts a lease.
use Rattle.std.proofs.Common.{◌≡◌, false, take}
use Rattle.std.specs.List.{list_any}
use Rattle.off_behind.specs.Drops.{puts}
use Rattle.off_behind.proofs.changes.has_puts.Given as goal

abbrev pub invariant-loop-place : goal.invariant-loop-place
invariant-loop-place l = list_any puts (take l.place l.writes) ≡ false
