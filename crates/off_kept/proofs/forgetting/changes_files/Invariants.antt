use Rattle.std.proofs.Common.{◌≡◌, false, length, take}
use Rattle.off_kept.specs.Entries.{changes_files}
use Rattle.off_kept.proofs.forgetting.changes_files.Given as goal

abbrev pub invariant-loop-place : goal.invariant-loop-place
invariant-loop-place l = (changes_files (take l.place l.writes) ≡ false) × (l.place-end ≡ length l.writes)
