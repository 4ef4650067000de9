-- What is taken for the writes so far.
use Rattle.std.proofs.Common.{◌≡◌, take}
use Rattle.off_device_runs.specs.Ground.{taken_all}
use Rattle.off_device_runs.proofs.taking.taken_all.Given as goal

abbrev pub invariant-loop-place : goal.invariant-loop-place
invariant-loop-place l = l.taken ≡ taken_all (take l.place l.writes)
