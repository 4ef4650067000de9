-- What a file shows as a disk: its length, and how many of its calls failed. What it holds, and
-- what a crash leaves of it, isn't told.
use Rattle.std.specs.Prelude.{ℕ}
use Rattle.off_disk.specs.DiskSeen.{DiskSeen}

abbrev pub file_seen : ℕ → ℕ → DiskSeen
file_seen size faults =
    record { bytes = λ _. ⊥; size = size; faults = faults; moment = 0; left = λ _ _. ⊥ }
