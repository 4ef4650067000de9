use Rattle.std.proofs.Common.{◌≡◌, false, length, take}
use Rattle.off_tftp.specs.Agreements.{touch_all}
use Rattle.off_tftp.proofs.agreements.touch_all.Given as goal

abbrev pub invariant-loop-place : goal.invariant-loop-place
invariant-loop-place l = (touch_all (take l.place l.writes) ≡ false) × (l.place-end ≡ length l.writes)
