-- One call of a disk in memory, replayed.
use Rattle.std.specs.Prelude.{◌≡◌, ℕ, ◌+◌, ◌≤◌, List, take, drop, length}
use Rattle.off_disk.specs.DiskCalls.{Torn}
use Rattle.off_memdisk.specs.MemDisks.{written_in}
use Rattle.off_memdisk.specs.declared.mem_disk.Mark.{Mark}
use Rattle.off_memdisk.specs.declared.mem_disk.Mark.TheVariants.{Wrote, Synced}
use Rattle.off_memdisk.specs.declared.tearing.Replay.{Replay}

-- a write has its bytes among the pieces, and begins within
abbrev pub CanStep : Mark → ℕ → Replay → Type 0
CanStep (Wrote at len) pieces replay =
    (replay.taken + len ≤ pieces) × (at ≤ length replay.reads.items)
CanStep Synced pieces replay = Unit {0}

abbrev pub Steps : Mark → List ℕ → Replay → Replay → Type 0
Steps (Wrote at len) pieces old new =
    (new.reads.items ≡ written_in old.reads.items at (take len (drop old.taken pieces)))
    × (Torn at len old.image.items new.image.items) × (new.taken ≡ old.taken + len)
Steps Synced pieces old new =
    (new.reads.items ≡ old.reads.items) × (new.image.items ≡ old.reads.items)
    × (new.taken ≡ old.taken)
