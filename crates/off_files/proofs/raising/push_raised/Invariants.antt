use Rattle.std.proofs.Common.{◌≡◌, ◌++◌, map, take}
use Rattle.off_file_rules.specs.Profile.{raised}
use Rattle.off_files.proofs.raising.push_raised.Given as goal

abbrev pub invariant-loop-place : goal.invariant-loop-place
invariant-loop-place l = l.out ≡ l.fn.out ++ map (raised l.number) (take l.place l.settings)
