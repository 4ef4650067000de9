-- The calls of a file, as those of a disk that tells nothing.
use Rattle.std.proofs.Common.{◌≡◌, ℕ, ◌+◌, ◌≤◌, max, List, length, refl, arith}
use Rattle.off_defs.specs.Counts.{Grew}
use Rattle.off_disk.specs.DiskCalls.{Same, Torn, Passes, Kept, HasRead, HasWritten, HasSynced, NotRead, NotWritten, NotSynced}
use Rattle.off_file_disk.specs.Untold.{file_seen}

file_passes : (step : List ℕ → List ℕ → Type 0) (size more faults rose : ℕ) → Passes step (file_seen size faults) (file_seen more rose)
file_passes step size more faults rose = record { later = omega arith; past = λ m c before told. absurd told; within = λ m c behind by told. absurd told }

file_kept : (size faults rose : ℕ) → Kept (file_seen size faults) (file_seen size rose)
file_kept size faults rose = record { bytes = λ c told. absurd told; told = λ b told. absurd told; size = refl; passes = file_passes Same size size faults rose }

pub file_read : (at : ℕ) (out : List ℕ) (size faults : ℕ) → HasRead at out (file_seen size faults) (file_seen size faults)
file_read at out size faults = record { gives = λ b told. absurd told; kept = file_kept size faults faults; faults = refl }

pub file_not_read : (size faults rose : ℕ) → Grew 1 faults rose → NotRead (file_seen size faults) (file_seen size rose)
file_not_read size faults rose grew = record { kept = file_kept size faults rose; faults = grew }

pub file_written : (at : ℕ) (piece : List ℕ) (size more faults : ℕ) → more ≡ max size (at + length piece) → HasWritten at piece (file_seen size faults) (file_seen more faults)
file_written at piece size more faults longer = record {
  bytes = λ c told. absurd told;
  told = λ b told. absurd told;
  size = longer;
  passes = file_passes (Torn at (length piece)) size more faults faults;
  faults = refl;
}

pub file_not_written : (at n size faults rose : ℕ) → Grew 1 faults rose → NotWritten at n (file_seen size faults) (file_seen size rose)
file_not_written at n size faults rose grew = record {
  bytes = λ c told. absurd told;
  told = λ b told. absurd told;
  no_shorter = omega arith;
  no_longer = omega arith;
  passes = file_passes (Torn at n) size size faults rose;
  faults = grew;
}

pub file_synced : (size faults : ℕ) → HasSynced (file_seen size faults) (file_seen size faults)
file_synced size faults = record { kept = file_kept size faults faults; sure = λ c left. absurd left; faults = refl }

pub file_not_synced : (size faults rose : ℕ) → Grew 1 faults rose → NotSynced (file_seen size faults) (file_seen size rose)
file_not_synced size faults rose grew = record { kept = file_kept size faults rose; faults = grew }

pub ruleset file_calls = (file_read, file_not_read, file_written, file_not_written, file_synced, file_not_synced)
