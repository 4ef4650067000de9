use Rattle.std.proofs.Common.{◌≡◌, ◌++◌, take}
use Rattle.off_files.proofs.profiles.push_copies.Given as goal

abbrev pub invariant-loop-place : goal.invariant-loop-place
invariant-loop-place l = l.out ≡ l.fn.out ++ take l.place l.settings
