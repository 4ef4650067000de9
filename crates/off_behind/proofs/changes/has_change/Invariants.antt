-- None of the writes so far changes the lease of the address.
use Rattle.std.proofs.Common.{◌≡◌, false, take}
use Rattle.std.specs.List.{list_any}
use Rattle.off_behind.specs.Drops.{changes}
use Rattle.off_behind.proofs.changes.has_change.Given as goal

abbrev pub invariant-loop-place : goal.invariant-loop-place
invariant-loop-place l = list_any (changes l.address) (take l.place l.writes) ≡ false
