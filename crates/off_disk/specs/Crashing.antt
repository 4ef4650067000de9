-- What a crash at each moment of a call leaves of a journal.
use Rattle.std.specs.Prelude.{◌≡◌, ℕ, ◌+◌, ◌<◌, ◌≤◌, ◌⊎◌, List, [], ◌∷◌, ◌++◌, length, Bool, true}
use Rattle.std.specs.Prelude.{false}
use Rattle.off_defs.specs.Counts.{Grew}
use Rattle.off_disk.specs.DiskSeen.{DiskSeen}
use Rattle.off_disk.specs.Records.{record_of, blocks, IsClosed, IsDoubtful, IsBroken}
use Rattle.off_disk.specs.declared.appending.Appended.{Appended}
use Rattle.off_disk.specs.declared.appending.Appended.TheVariants.{Opened, Closed, Doubtful}

-- each file that a crash may leave now has P
abbrev pub AllLeft : (List ℕ → Type 0) → DiskSeen → Type 0
AllLeft P disk = (c : List ℕ) → disk.left disk.moment c → P c

-- what a read gives has P, where it is told
abbrev pub AllRead : (List ℕ → Type 0) → DiskSeen → Type 0
AllRead P disk = (b : List ℕ) → disk.bytes b → P b

-- Each file that a crash may leave behind the first moment of a call has P; what was before stays.
pub record Leaves (P : List ℕ → Type 0) (old new : DiskSeen) : Type 0 where
  pub later : old.moment ≤ new.moment
  pub past : (m : ℕ) (c : List ℕ) → m ≤ old.moment → new.left m c → old.left m c
  pub within : (m : ℕ) (c : List ℕ) → old.moment < m → m ≤ new.moment → new.left m c → P c

-- time goes on, and what was before stays; where a crash leaves a file meanwhile, one at the first
-- moment might have left one too
pub record Elapsed (old new : DiskSeen) : Type 0 where
  pub later : old.moment ≤ new.moment
  pub past : (m : ℕ) (c : List ℕ) → m ≤ old.moment → new.left m c → old.left m c
  pub from : (m : ℕ) (c : List ℕ) → old.moment < m → m ≤ new.moment → new.left m c →
      (d : List ℕ) × old.left old.moment d

-- a record's bytes, and the closed gate behind it
abbrev pub closed_record : List ℕ → List ℕ
closed_record payload = record_of payload ++ 0 ∷ []

abbrev pub EitherState : List (List ℕ) → List ℕ → List ℕ → Type 0
EitherState payloads payload c = IsClosed payloads c ⊎ IsDoubtful payloads payload c

-- how an appending ends, by its answer: the record stands behind an open gate, or the journal is
-- closed as it was, or it is doubtful
abbrev pub EndsAs : Appended → List (List ℕ) → List ℕ → DiskSeen → Type 0
EndsAs Opened payloads payload disk = AllLeft (IsClosed (payloads ++ payload ∷ [])) disk
EndsAs Closed payloads payload disk = AllLeft (IsClosed payloads) disk
EndsAs Doubtful payloads payload disk = AllLeft (IsDoubtful payloads payload) disk

-- a fault was counted where the record doesn't stand
abbrev pub FaultsBy : Appended → ℕ → ℕ → Type 0
FaultsBy Opened before now = now ≡ before
FaultsBy Closed before now = Grew 1 before now
FaultsBy Doubtful before now = Grew 1 before now

-- the next gate is on the disk, unless the record never came there
abbrev pub IsLong : Appended → ℕ → ℕ → Type 0
IsLong Opened end size = end ≤ size
IsLong Closed end size = Unit {0}
IsLong Doubtful end size = end ≤ size

pub record Appends (gate : ℕ) (payload : List ℕ) (result : Appended)
    (old new : DiskSeen) : Type 0 where
  pub size : old.size ≤ new.size
  pub time : Elapsed old new
  pub long : IsLong result (gate + (length payload + 6)) new.size
  pub faults : FaultsBy result old.faults new.faults
  pub does : (payloads : List (List ℕ)) → length (blocks payloads) ≡ gate →
      AllLeft (IsClosed payloads) old
      → Leaves (EitherState payloads payload) old new × EndsAs result payloads payload new

-- after a settling a doubtful journal is closed, or as doubtful as before
abbrev pub SettledAs : Bool → List (List ℕ) → List ℕ → DiskSeen → Type 0
SettledAs true payloads payload disk = AllLeft (IsClosed payloads) disk
SettledAs false payloads payload disk = AllLeft (IsDoubtful payloads payload) disk

abbrev pub SettleFaults : Bool → ℕ → ℕ → Type 0
SettleFaults true before now = now ≡ before
SettleFaults false before now = Grew 1 before now

-- and a broken one is closed, or as broken as before
abbrev pub MendedAs : Bool → List (List ℕ) → DiskSeen → Type 0
MendedAs true payloads disk = AllLeft (IsClosed payloads) disk
MendedAs false payloads disk = Unit {0}

pub record Settles (gate : ℕ) (done : Bool) (old new : DiskSeen) : Type 0 where
  pub size : old.size ≤ new.size
  pub time : Elapsed old new
  pub faults : SettleFaults done old.faults new.faults
  pub does : (payloads : List (List ℕ)) (payload : List ℕ) → length (blocks payloads) ≡ gate
      → AllLeft (IsDoubtful payloads payload) old
      → Leaves (EitherState payloads payload) old new × SettledAs done payloads payload new
  pub mends : (payloads : List (List ℕ)) → length (blocks payloads) ≡ gate
      → AllLeft (IsBroken payloads) old
      → Leaves (IsBroken payloads) old new × MendedAs done payloads new
