use Rattle.std.proofs.Common.{◌≡◌, map, take}
use Rattle.off_file_rules.specs.Profile.{raised_part}
use Rattle.off_files.proofs.raising.raised_parts.Given as goal

abbrev pub invariant-loop-place : goal.invariant-loop-place
invariant-loop-place l = l.made ≡ map (raised_part l.number l.code) (take l.place l.parts)
