use Rattle.std.proofs.Common.{◌≡◌, ◌++◌, take}
use Rattle.off_file_rules.specs.Profile.{all_raised}
use Rattle.off_files.proofs.profiles.push_add_ons.Given as goal

abbrev pub invariant-loop-place : goal.invariant-loop-place
invariant-loop-place l = l.out ≡ l.fn.out ++ all_raised (take l.place l.add_ons)
