-- A disk that is read a stretch at a time.
use Rattle.std.specs.Prelude.{◌≡◌, ℕ, ◌+◌, ◌≤◌, List, take, drop}
use Rattle.off_disk.specs.DiskSeen.{DiskSeen}
use Rattle.off_disk.specs.DiskCalls.{Kept}

-- so many of the first bytes of the room are those that the disk has from a place on
abbrev pub Shows : ℕ → ℕ → List ℕ → DiskSeen → Type 0
Shows at count room disk =
    (b : List ℕ) → disk.bytes b → take count room ≡ take count (drop at b)

-- n bytes from a place on lie in the stretch that begins at the first, and has so many
pub record IsWithin (at n first count : ℕ) : Type 0 where
  pub behind : first ≤ at
  pub before : at + n ≤ first + count

pub record HasFilled (at n first count : ℕ) (old new : DiskSeen) : Type 0 where
  pub kept : Kept old new
  pub faults : new.faults ≡ old.faults
  pub within : IsWithin at n first count
