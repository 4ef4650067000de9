-- What an opening of a journal says.
use Rattle.std.specs.Prelude.{◌≡◌, ◌≢◌, ℕ, ◌+◌, ◌<◌, ◌≤◌, ◌^◌, List, [], ◌∷◌, ◌++◌, length, drop}
use Rattle.std.specs.Prelude.{Bool, true, false, Result, Ok, Err, map as each}
use Rattle.off_defs.specs.declared.writes.Write.{Write}
use Rattle.off_defs.specs.State.{Tables}
use Rattle.off_defs.specs.Tables.{write_all}
use Rattle.off_defs.specs.Told.{Goes}
use Rattle.off_defs.specs.Counts.{Grew}
use Rattle.off_outside.specs.KeeperSeen.{KeeperSeen}
use Rattle.off_disk.specs.DiskSeen.{DiskSeen}
use Rattle.off_disk.specs.DiskCalls.{Kept}
use Rattle.off_disk.specs.Records.{blocks, IsOpen}
use Rattle.off_journal.specs.Payload.{payload_of}
use Rattle.off_journal.specs.Reading.{IsNoPayload}
use Rattle.off_spelled.specs.Storable.{AllSpelled}
use Rattle.off_journal.specs.Journal.{IsJournal, Opens, AreCommits, tables_of}
use Rattle.off_disk.specs.Crashing.{Elapsed}
use Rattle.off_journal.specs.Keeping.{Keeps}
use Rattle.off_journal.specs.declared.keeper.Last.TheVariants.{Closed}
use Rattle.off_journal.specs.declared.begin.OpenErr.{OpenErr}
use Rattle.off_journal.specs.declared.begin.OpenErr.TheVariants.{Memory, Failed, Bad}
use Rattle.off_journal.specs.declared.begin.Gate.{Gate}
use Rattle.off_journal.specs.declared.begin.Gate.TheVariants.{Shut, Broken, Open}

-- Behind records of payloads, a whole record behind an open gate isn't a payload of writes; its
-- length stands at the place.
pub record IsBadAt (bytes : List ℕ) (place : ℕ) : Type 0 where
  pub commits : List (List Write)
  pub are : AreCommits commits
  pub payload : List ℕ
  pub tail : List ℕ
  pub rest : List ℕ
  pub is : bytes ≡ blocks (each payload_of commits) ++ rest
  pub opened : IsOpen rest payload tail
  pub bad : IsNoPayload payload
  pub place_is : place ≡ length (blocks (each payload_of commits)) + 1

-- the tables of the journal that the bytes are
pub record Gives (bytes : List ℕ) (tables : Tables) : Type 0 where
  pub commits : List (List Write)
  pub journal : IsJournal bytes commits
  pub tables_are : tables ≡ tables_of commits

-- opening never changes what an opening gives
abbrev pub OpensAsBefore : DiskSeen → DiskSeen → Type 0
OpensAsBefore old new =
    (m : ℕ) (c : List ℕ) (u : Tables) → old.moment < m → m ≤ new.moment → new.left m c → Opens c u
    → (d : List ℕ) × (old.left old.moment d × Opens d u)

-- ---- one record

-- bytes that begin with another byte than 1
abbrev pub IsNotOne : List ℕ → Type 0
IsNotOne bytes = (byte : ℕ) × ((more : List ℕ) × ((bytes ≡ byte ∷ more) × (byte ≢ 1)))

abbrev pub GateAt : Gate → List ℕ → Type 0
GateAt Shut rest = (gate : ℕ) × ((more : List ℕ) × ((rest ≡ gate ∷ more) × (gate ≢ 1)))
GateAt Broken rest =
    (more : List ℕ) × ((rest ≡ 1 ∷ more) × ((payload tail : List ℕ) → IsOpen rest payload tail → ⊥))
GateAt (Open payload) rest = (tail : List ℕ) × IsOpen rest payload.items tail

abbrev pub IsWithin : Gate → ℕ → ℕ → Type 0
IsWithin Shut gate size = Unit {0}
IsWithin Broken gate size = Unit {0}
IsWithin (Open payload) gate size =
    (gate + (5 + length payload.items) < size) × (length payload.items < 2 ^ 32)

pub record HasLooked (found : Gate) (gate : ℕ) (old new : DiskSeen) : Type 0 where
  pub kept : Kept old new
  pub faults : new.faults ≡ old.faults
  pub within : IsWithin found gate old.size
  pub at : (b : List ℕ) → old.bytes b → GateAt found (drop gate b)

abbrev pub FaultsAt : OpenErr → ℕ → ℕ → Type 0
FaultsAt Memory before now = now ≡ before
FaultsAt Failed before now = Grew 1 before now
FaultsAt (Bad place) before now = now ≡ before

abbrev pub NoBad : OpenErr → Type 0
NoBad Memory = Unit {0}
NoBad Failed = Unit {0}
NoBad (Bad place) = ⊥

pub record NotLooked (why : OpenErr) (old new : DiskSeen) : Type 0 where
  pub kept : Kept old new
  pub faults : FaultsAt why old.faults new.faults
  pub good : NoBad why

abbrev pub RecordRead : Result Gate OpenErr → ℕ → DiskSeen → DiskSeen → Type 0
RecordRead (Ok found) gate old new = HasLooked found gate old new
RecordRead (Err why) gate old new = NotLooked why old new

-- its payload
abbrev pub PayloadDone : Result (Unit {0}) OpenErr → ℕ → List ℕ → Tables → Tables → Type 0
PayloadDone (Ok x) gate payload before after =
    (writes : List Write) × (AllSpelled writes × ((payload_of writes ≡ payload)
    × (after ≡ write_all before writes)))
PayloadDone (Err Memory) gate payload before after = Unit {0}
PayloadDone (Err Failed) gate payload before after = ⊥
PayloadDone (Err (Bad place)) gate payload before after = IsNoPayload payload × (place ≡ gate + 1)

-- ---- all records

-- the records so far
pub record SoFar (rows : Tables) (gate : ℕ) (disk : DiskSeen) : Type 0 where
  pub commits : List (List Write)
  pub are : AreCommits commits
  pub tables : rows ≡ tables_of commits
  pub place : length (blocks (each payload_of commits)) ≡ gate
  pub front : (b : List ℕ) → disk.bytes b → b ≡ blocks (each payload_of commits) ++ drop gate b

abbrev pub last_gate : Bool → Gate
last_gate true = Broken
last_gate false = Shut

pub record AllReadIn (rows : Tables) (gate : ℕ) (broken : Bool) (old new : DiskSeen) : Type 0 where
  pub kept : Kept old new
  pub faults : new.faults ≡ old.faults
  pub within : gate < new.size
  pub so_far : SoFar rows gate new
  pub last : (b : List ℕ) → new.bytes b → GateAt (last_gate broken) (drop gate b)

abbrev pub BadIn : OpenErr → DiskSeen → Type 0
BadIn Memory disk = Unit {0}
BadIn Failed disk = Unit {0}
BadIn (Bad place) disk = (b : List ℕ) → disk.bytes b → IsBadAt b place

pub record NotAllRead (why : OpenErr) (old new : DiskSeen) : Type 0 where
  pub kept : Kept old new
  pub faults : FaultsAt why old.faults new.faults
  pub bad : BadIn why old

-- ---- the whole opening

pub record HasOpened (rows : Tables) (gate : ℕ) (old new : DiskSeen) : Type 0 where
  pub time : Elapsed old new
  pub faults : new.faults ≡ old.faults
  pub within : gate < new.size
  pub keeps : Keeps rows gate Closed new
  pub gives : (b : List ℕ) → old.bytes b → Gives b rows
  pub as_before : OpensAsBefore old new

-- A journal that is made on an empty disk is one closed gate, the byte 0.
abbrev pub MadeEmpty : DiskSeen → DiskSeen → Type 0
MadeEmpty old new = old.size ≡ 0 → (b : List ℕ) → new.bytes b → b ≡ 0 ∷ []

pub record NotOpened (why : OpenErr) (old new : DiskSeen) : Type 0 where
  pub time : Elapsed old new
  pub faults : FaultsAt why old.faults new.faults
  pub bad : BadIn why old
  pub as_before : OpensAsBefore old new

-- Opened: it tells the tables that the bytes give, where these are told, and nothing is in doubt.
pub record HasBegun (old : DiskSeen) (keeper : KeeperSeen) : Type 0 where
  pub tables : Goes keeper.tables (λ t. (b : List ℕ) → old.bytes b → Gives b t)
  pub up : keeper.up
  pub faults : keeper.faults ≡ old.faults
  pub calls : keeper.calls ≡ 0
  pub commits : keeper.commits ≡ 0
  pub sure : (u : Tables) → keeper.doubt u → ⊥
  pub later : old.moment ≤ keeper.moment
  -- a crash before the opening or within it opens as one before it
  pub past : (m : ℕ) (u : Tables) → m ≤ old.moment → keeper.opened m u
      → (c : List ℕ) × (old.left m c × Opens c u)
  pub within : (m : ℕ) (u : Tables) → old.moment < m → m ≤ keeper.moment → keeper.opened m u
      → (d : List ℕ) × (old.left old.moment d × Opens d u)

abbrev pub NotBegun : OpenErr → DiskSeen → DiskSeen → Type 0
NotBegun why old new = NotOpened why old new
