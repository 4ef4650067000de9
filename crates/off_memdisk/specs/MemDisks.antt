-- A disk in memory: what it reads as, and what a crash at each moment may leave, from the bytes
-- that it began with and the calls that were done.
use Rattle.std.specs.Prelude.{◌≡◌, ℕ, ◌+◌, ◌≤◌, ◌^◌, ◌⊎◌, min, Option, Some, None, List, [], ◌∷◌}
use Rattle.std.specs.Prelude.{◌++◌, length, take, drop}
use Rattle.off_disk.specs.DiskSeen.{DiskSeen}
use Rattle.off_disk.specs.DiskCalls.{Torn}
use Rattle.off_defs.specs.Counts.{one_more, most_count}
use Rattle.off_outside.specs.InMemory.{CallsHeld, IsToFail, one_called}
use Rattle.off_memdisk.specs.declared.mem_disk.Mark.{Mark}
use Rattle.off_memdisk.specs.declared.mem_disk.Mark.TheVariants.{Wrote, Synced}

-- the calls that were done: a write of bytes at a place, or None, a sync
abbrev pub calls_of : List Mark → List ℕ → List (Option (ℕ × List ℕ))
calls_of [] pieces = []
calls_of (Wrote at len ∷ marks) pieces =
    Some (at, take len pieces) ∷ calls_of marks (drop len pieces)
calls_of (Synced ∷ marks) pieces = None ∷ calls_of marks pieces

-- how many bytes were written
abbrev pub total_of : List Mark → ℕ
total_of [] = 0
total_of (Wrote at len ∷ marks) = len + total_of marks
total_of (Synced ∷ marks) = total_of marks

abbrev pub written_in : List ℕ → ℕ → List ℕ → List ℕ
written_in bytes at piece = take at bytes ++ (piece ++ drop (at + length piece) bytes)

-- as it reads after calls
abbrev pub reads_after : List ℕ → List (Option (ℕ × List ℕ)) → List ℕ
reads_after bytes [] = bytes
reads_after bytes (None ∷ calls) = reads_after bytes calls
reads_after bytes (Some write ∷ calls) = reads_after (written_in bytes write.0 write.1) calls

-- each write began within the disk
abbrev pub AllFit : List ℕ → List (Option (ℕ × List ℕ)) → Type 0
AllFit bytes [] = Unit {0}
AllFit bytes (None ∷ calls) = AllFit bytes calls
AllFit bytes (Some write ∷ calls) =
    (write.0 ≤ length bytes) × AllFit (written_in bytes write.0 write.1) calls

-- What a crash may leave after calls, of a disk that reads as `bytes` and of which it might leave
-- what `left` has: a write may be torn, and behind a sync the disk is as it reads.
abbrev pub LeftBy : List ℕ → (List ℕ → Type 0) → List (Option (ℕ × List ℕ)) → List ℕ → Type 0
LeftBy bytes left [] c = left c
LeftBy bytes left (None ∷ calls) c = LeftBy bytes (λ d. d ≡ bytes) calls c
LeftBy bytes left (Some write ∷ calls) c =
    LeftBy (written_in bytes write.0 write.1)
    (λ d. (e : List ℕ) × (left e × Torn write.0 (length write.1) e d)) calls c

-- how much room calls take: one each, and one for each byte that they write
abbrev pub room_of : List (Option (ℕ × List ℕ)) → ℕ
room_of [] = 0
room_of (None ∷ calls) = 1 + room_of calls
room_of (Some write ∷ calls) = 1 + (length write.1 + room_of calls)

-- A disk in memory: the bytes that it began with, the writes and syncs that were done since, the
-- room that it took for both, and its counters.
pub record MemDiskHeld : Type 0 where
  pub base : List ℕ
  pub calls : List (Option (ℕ × List ℕ))
  pub room : ℕ
  pub faults : ℕ
  pub failing : CallsHeld

abbrev pub used : MemDiskHeld → ℕ
used m = length m.base + room_of m.calls

abbrev pub reads_as : MemDiskHeld → List ℕ
reads_as m = reads_after m.base m.calls

abbrev pub new_disk : List ℕ → ℕ → List ℕ → MemDiskHeld
new_disk base room fails = record {
  base = base;
  calls = [];
  room = room;
  faults = 0;
  failing = record { listed = fails; made = 0 };
}

-- the greatest length
abbrev pub most_bytes : ℕ
most_bytes = 2 ^ 62

-- each write began within the disk, and the disk isn't too long
pub record IsSound (base : List ℕ) (calls : List (Option (ℕ × List ℕ))) : Type 0 where
  pub fit : AllFit base calls
  pub small : length (reads_after base calls) ≤ most_bytes

-- what a disk tells that began with `base` and had these calls
abbrev pub disk_seen : List ℕ → List (Option (ℕ × List ℕ)) → ℕ → DiskSeen
disk_seen base calls faults = record {
  bytes = λ b. (b ≡ reads_after base calls) × IsSound base calls;
  size = min (length (reads_after base calls)) most_bytes;
  faults = faults;
  moment = length calls;
  left = λ k c. LeftBy base (λ b. b ≡ base) (take k calls) c;
}

abbrev pub mem_seen : MemDiskHeld → DiskSeen
mem_seen m = disk_seen m.base m.calls m.faults

-- what a disk in memory holds
pub record DiskHeld (base : List ℕ) (marks : List Mark) (pieces bytes : List ℕ)
    (room : ℕ) : Type 0 where
  pub reads : bytes ≡ reads_after base (calls_of marks pieces)
  pub sound : IsSound base (calls_of marks pieces)
  pub joined : length pieces ≡ total_of marks
  pub fits : length base + length pieces + length marks ≤ room
  pub no_longer : length bytes ≤ length base + length pieces

-- each of the three has room for all that fits
pub record HasSpace (bytes pieces marks room : ℕ) : Type 0 where
  pub bytes_fit : room ≤ bytes
  pub pieces_fit : room ≤ pieces
  pub marks_fit : room ≤ marks

-- ---- what the calls do

-- it fails where it is listed
pub record MemRead (at : ℕ) (out : List ℕ) (old new : MemDiskHeld) : Type 0 where
  pub unlisted : ¬ (IsToFail old.failing)
  pub gives : out ≡ take (length out) (drop at (reads_as old))
  pub after : new ≡ record old { failing = one_called old.failing }

-- a call that fails does nothing but count
pub record MemCounts (old new : MemDiskHeld) : Type 0 where
  pub fits : old.faults ≤ most_count
  pub after : new ≡ record old { failing = one_called old.failing; faults = one_more old.faults }

pub record MemNotRead (old new : MemDiskHeld) : Type 0 where
  pub listed : IsToFail old.failing
  pub counts : MemCounts old new

-- there is room for a write at a place of so many bytes
pub record HasRoom (at n : ℕ) (m : MemDiskHeld) : Type 0 where
  pub within : used m + (n + 1) ≤ m.room
  pub small : at + n ≤ most_bytes

pub record MemWrote (at : ℕ) (piece : List ℕ) (old new : MemDiskHeld) : Type 0 where
  pub unlisted : ¬ (IsToFail old.failing)
  pub room : HasRoom at (length piece) old
  pub after : new ≡ record old {
    calls = old.calls ++ Some (at, piece) ∷ [];
    failing = one_called old.failing;
  }

pub record MemNotWritten (at n : ℕ) (old new : MemDiskHeld) : Type 0 where
  pub cause : IsToFail old.failing ⊎ (¬ HasRoom at n old)
  pub counts : MemCounts old new

pub record MemSynced (old new : MemDiskHeld) : Type 0 where
  pub unlisted : ¬ (IsToFail old.failing)
  pub room : used old + 1 ≤ old.room
  pub after : new ≡ record old { calls = old.calls ++ None ∷ []; failing = one_called old.failing }

pub record MemNotSynced (old new : MemDiskHeld) : Type 0 where
  pub cause : IsToFail old.failing ⊎ (¬ (used old + 1 ≤ old.room))
  pub counts : MemCounts old new

-- ---- what a crash leaves

-- a disk that a crash may leave, which begins with one of the files that are told
pub record IsCrashed (old new : MemDiskHeld) : Type 0 where
  pub left : (mem_seen old).left (mem_seen old).moment new.base
  pub is : new ≡ new_disk new.base old.room []
