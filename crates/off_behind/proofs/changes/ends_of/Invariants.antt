-- All addresses whose leases the writes so far change lie between these.
use Rattle.std.proofs.Common.{take}
use Rattle.off_behind.specs.Drops.{AreEnds}
use Rattle.off_behind.proofs.changes.ends_of.Given as goal

abbrev pub invariant-loop-place : goal.invariant-loop-place
invariant-loop-place l = AreEnds (take l.place l.writes) l.ends
