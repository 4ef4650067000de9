-- What each call of a disk does to each of its meanings.
use Rattle.std.specs.Prelude.{◌≡◌, ℕ, ◌+◌, ◌<◌, ◌≤◌, max, List, ◌++◌, length, take, drop}
use Rattle.off_defs.specs.Counts.{Grew}
use Rattle.off_disk.specs.DiskSeen.{DiskSeen}

-- the same bytes
abbrev pub Same : List ℕ → List ℕ → Type 0
Same old new = new ≡ old

-- new is old with these bytes at this place
abbrev pub Holds : ℕ → List ℕ → List ℕ → List ℕ → Type 0
Holds at piece old new = new ≡ take at old ++ (piece ++ drop (at + length piece) old)

-- after a write of n bytes that may be cut short: any bytes in its range, the same elsewhere
pub record Torn (at n : ℕ) (old new : List ℕ) : Type 0 where
  pub before : take at new ≡ take at old
  pub behind : drop (at + n) new ≡ drop (at + n) old
  pub no_shorter : length old ≤ length new
  pub no_longer : length new ≤ max (length old) (at + n)

-- Time goes on. What a crash might have left before stays; what one may leave meanwhile, or now,
-- comes by a step from what one might have left when the call began.
pub record Passes (step : List ℕ → List ℕ → Type 0) (old new : DiskSeen) : Type 0 where
  pub later : old.moment ≤ new.moment
  pub past : (m : ℕ) (c : List ℕ) → m ≤ old.moment → new.left m c → old.left m c
  pub within : (m : ℕ) (c : List ℕ) → old.moment < m → m ≤ new.moment → new.left m c →
      (d : List ℕ) × (old.left old.moment d × step d c)

-- what is told behind a call comes by a step from what was told before it
abbrev pub From : (List ℕ → List ℕ → Type 0) → (List ℕ → Type 0) → (List ℕ → Type 0) → Type 0
From step old new = (c : List ℕ) → new c → (b : List ℕ) × (old b × step b c)

-- what was told is told after a step
abbrev pub Onto : (List ℕ → List ℕ → Type 0) → (List ℕ → Type 0) → (List ℕ → Type 0) → Type 0
Onto step old new = (b : List ℕ) → old b → (c : List ℕ) × (new c × step b c)

-- nothing was written
pub record Kept (old new : DiskSeen) : Type 0 where
  pub bytes : From Same old.bytes new.bytes
  pub told : Onto Same old.bytes new.bytes
  pub size : new.size ≡ old.size
  pub passes : Passes Same old new

pub record HasRead (at : ℕ) (out : List ℕ) (old new : DiskSeen) : Type 0 where
  pub gives : (b : List ℕ) → old.bytes b → out ≡ take (length out) (drop at b)
  pub kept : Kept old new
  pub faults : new.faults ≡ old.faults

pub record NotRead (old new : DiskSeen) : Type 0 where
  pub kept : Kept old new
  pub faults : Grew 1 old.faults new.faults

pub record HasWritten (at : ℕ) (piece : List ℕ) (old new : DiskSeen) : Type 0 where
  pub bytes : From (Holds at piece) old.bytes new.bytes
  pub told : Onto (Holds at piece) old.bytes new.bytes
  pub size : new.size ≡ max old.size (at + length piece)
  pub passes : Passes (Torn at (length piece)) old new
  pub faults : new.faults ≡ old.faults

-- a write that failed may have written any bytes in its range
pub record NotWritten (at n : ℕ) (old new : DiskSeen) : Type 0 where
  pub bytes : From (Torn at n) old.bytes new.bytes
  pub told : Onto (Torn at n) old.bytes new.bytes
  pub no_shorter : old.size ≤ new.size
  pub no_longer : new.size ≤ max old.size (at + n)
  pub passes : Passes (Torn at n) old new
  pub faults : Grew 1 old.faults new.faults

pub record HasSynced (old new : DiskSeen) : Type 0 where
  pub kept : Kept old new
  pub sure : (c : List ℕ) → new.left new.moment c → new.bytes c
  pub faults : new.faults ≡ old.faults

pub record NotSynced (old new : DiskSeen) : Type 0 where
  pub kept : Kept old new
  pub faults : Grew 1 old.faults new.faults

-- written and synced: a crash leaves what a read gives
pub record HasStored (at : ℕ) (piece : List ℕ) (old new : DiskSeen) : Type 0 where
  pub written : HasWritten at piece old new
  pub sure : (c : List ℕ) → new.left new.moment c → new.bytes c
  -- as each disk reads at a moment is one of those that a crash may leave at it
  pub before : (b : List ℕ) → old.bytes b → old.left old.moment b
